-- `intersect` meets its contract: on one line by the order of the ends; else its four ends are those of the edges, and open where they are shared.
use mathlib.Core.Path.{refl, sym, ◌∙◌, ap, ap₂, subst⁻¹}
use mathlib.Core.Bool.{◌||◌}
use mir.Syntax.{w64}
use mir.Val.{SFits}
use borrow.Author.Rules.{rules}
use Rattle.geometry.specs.Plane.{turn}
use Rattle.geometry.specs.Segment.{shared}
use Rattle.geometry.specs.Contact.{kind}
use Rattle.geometry.specs.Answers.{without_ends}
use Rattle.geometry.specs.Lent.{InRange}
use Rattle.geometry.specs.Spots.{spots}
use Rattle.geometry.proofs.Reading.{read_given}
use Rattle.index_edge.specs.Number.{edge_of}
use Rattle.sweeps.proofs.Seeing.{from_below, to_below, share_is, kind_is, kind_on_the_line}
use Rattle.sweeps.proofs.pair.Pair.intersect.Goals as goal

pub returns-then-on_line : goal.returns-then-on_line
returns-then-on_line c =
    let s = c.args.self in
    c.then_some.ensures
    ∙ kind_on_the_line (spots s.a.points) (edge_of s.a.edge) s.from.id.0 s.to.id.0 s.sight.first.side s.sight.second.side refl refl
    (sym c.on_line.ensures ∙ c.if-on_line.true) c.overlaps.ensures

pub at-requires : goal.at-requires
at-requires c = let s = c.args.self in from_below s.a.points s.from.id.0 s.to.id.0 s.sight.among

pub at-requires-2 : goal.at-requires-2
at-requires-2 c = let s = c.args.self in to_below s.a.points s.from.id.0 s.to.id.0 s.sight.among

pub intersect-requires : goal.intersect-requires
intersect-requires c =
    let s = c.args.self in
    let v = s.sight in
    let from : SFits w64 s.from.turn = search rules in
    let to : SFits w64 s.to.turn = search rules in
    let a = c.endpoint.ensures.0 ∙ s.a.spans.first in
    let b = c.endpoint-2.ensures.0 ∙ s.a.spans.second in
    let d = c.endpoint-3.ensures.0 ∙ c.at.ensures in
    let e = c.endpoint-4.ensures.0 ∙ c.at-2.ensures in (
      subst⁻¹ InRange c.endpoint.ensures.0 s.a.min.near,
      subst⁻¹ InRange c.endpoint-2.ensures.0 s.a.max.near,
      subst⁻¹ InRange c.endpoint-3.ensures.0 c.at.result.near,
      subst⁻¹ InRange c.endpoint-4.ensures.0 c.at-2.result.near,
      read_given from v.first.side ∙ sym (λ t. turn (a t) (b t) (d t)),
      read_given to v.second.side ∙ sym (λ t. turn (a t) (b t) (e t)),
      ap₂ ◌||◌ c.endpoint.ensures.1 c.endpoint-2.ensures.1 ∙ share_is s.a.points s.from.id.0 s.to.id.0 v.among ∙ sym (λ t. shared (a t) (b t) (d t) (e t)),
    )

pub returns : goal.returns
returns c =
    let s = c.args.self in
    let a = c.endpoint.ensures.0 ∙ s.a.spans.first in
    let b = c.endpoint-2.ensures.0 ∙ s.a.spans.second in
    let d = c.endpoint-3.ensures.0 ∙ c.at.ensures in
    let e = c.endpoint-4.ensures.0 ∙ c.at-2.ensures in
    c.intersect.ensures ∙ ap without_ends ((λ t. kind (a t) (b t) (d t) (e t)) ∙ kind_is (spots s.a.points) (edge_of s.a.edge) s.from.id.0 s.to.id.0)
