-- `compare` meets its contract: off the edge's line the sides alone decide.
use mathlib.Core.Path.{refl, sym, ◌∙◌, ap}
use mir.Syntax.{w64}
use mir.Val.{SFits}
use borrow.Author.Rules.{rules}
use Rattle.algebra.specs.Cases.{or_no_left, or_no_right}
use Rattle.geometry.specs.Plane.{turn, is_zero}
use Rattle.geometry.specs.Contact.{kind, some_contact}
use Rattle.geometry.specs.Spots.{spots}
use Rattle.geometry.proofs.Reading.{read_given, zero_bits}
use Rattle.index_edge.specs.Number.{edge_of}
use Rattle.sweeps.proofs.Seeing.{from_below, to_below, contact_is, met_is, other_off}
use Rattle.sweeps.proofs.pair.Pair.compare.Goals as goal

pub at-from_point-requires : goal.at-from_point-requires
at-from_point-requires c = let s = c.args.self in from_below s.a.points s.from.id.0 s.to.id.0 s.sight.among

pub at-to_point-requires : goal.at-to_point-requires
at-to_point-requires c = let s = c.args.self in to_below s.a.points s.from.id.0 s.to.id.0 s.sight.among

pub crosses-meets-requires : goal.crosses-meets-requires
crosses-meets-requires c =
    let s = c.args.self in
    let v = s.sight in
    let from : SFits w64 s.from.turn = search rules in
    let to : SFits w64 s.to.turn = search rules in
    let a = s.a.spans.first in
    let b = s.a.spans.second in
    let d = c.at-from_point.ensures in
    let f = c.at-to_point.ensures in (
      read_given from v.first.side ∙ sym (λ t. turn (a t) (b t) (d t)),
      read_given to v.second.side ∙ sym (λ t. turn (a t) (b t) (f t)),
      ap is_zero (read_given from refl) ∙ sym (zero_bits s.from.turn from) ∙ or_no_left _ _ c.if-from-to.false,
      ap is_zero (read_given to refl) ∙ sym (zero_bits s.to.turn to) ∙ or_no_right _ _ c.if-from-to.false,
    )

pub returns : goal.returns
returns c =
    let s = c.args.self in
    let v = s.sight in
    let pt = spots s.a.points in
    let e = edge_of s.a.edge in
    let from : SFits w64 s.from.turn = search rules in
    let to : SFits w64 s.to.turn = search rules in
    let off_from = sym (zero_bits s.from.turn from ∙ ap is_zero v.first.side) ∙ or_no_left _ _ c.if-from-to.false in
    let off_to = sym (zero_bits s.to.turn to ∙ ap is_zero v.second.side) ∙ or_no_right _ _ c.if-from-to.false in
    let a = s.a.spans.first in
    let b = s.a.spans.second in
    let d = c.at-from_point.ensures in
    let f = c.at-to_point.ensures in
    let another = other_off pt e s.from.id.0 s.to.id.0 off_from off_to in
    record {
      other = sym another;
      meets = met_is s.a.points v.among another (c.crosses-meets.ensures ∙ (λ t. some_contact (kind (a t) (b t) (d t) (f t))) ∙ contact_is pt e s.from.id.0 s.to.id.0);
    }
