-- `crosses` meets its contract: off the line of the first segment the sides alone decide.
use mathlib.Core.Path.{refl, sym, ◌∙◌, ap, ap₂}
use mathlib.Core.Bool.{not, ◌&&◌}
use Rattle.geometry.specs.Plane.{is_zero}
use Rattle.geometry.specs.Segment.{same_side}
use Rattle.geometry.specs.Lent.{spot}
use Rattle.geometry.proofs.Reading.{read_64, read_given}
use Rattle.geometry.proofs.MeetingParts.{turns_agree, fourth_is, fourth_fits, crosses_is}
use Rattle.geometry.proofs.line_segment.crosses.Goals as goal

pub fourth-s-requires : goal.fourth-s-requires
fourth-s-requires c =
    let s = c.args in
    let h = c.requires in
    let r = read_64 c.turn_of-r.type_inv (c.turn_of-r.ensures ∙ turns_agree (spot s.a.point) (spot s.c.point) (spot s.d.point)) in
    fourth_fits (s.a.near, s.b.near, s.c.near, s.d.near) (read_given c.ranges.p h.0) (read_given c.ranges.q h.1) r

pub returns : goal.returns
returns c =
    let s = c.args in
    let h = c.requires in
    let p = read_given c.ranges.p h.0 in
    let q = read_given c.ranges.q h.1 in
    let r = read_64 c.turn_of-r.type_inv (c.turn_of-r.ensures ∙ turns_agree (spot s.a.point) (spot s.c.point) (spot s.d.point)) in
    let t = read_64 c.fourth-s.type_inv (c.fourth-s.ensures ∙ fourth_is (s.a.near, s.b.near, s.c.near, s.d.near) p q r) in
    ap₂ ◌&&◌ (ap not (c.same_side.ensures ∙ ap₂ same_side p q)) (ap not (c.same_side-2.ensures ∙ ap₂ same_side r t))
    ∙ crosses_is (spot s.a.point) (spot s.b.point) (spot s.c.point) (spot s.d.point) refl refl refl refl (ap is_zero (sym h.0) ∙ h.2) (ap is_zero (sym h.1) ∙ h.3)
