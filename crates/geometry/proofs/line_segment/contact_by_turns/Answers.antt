-- `contact_by_turns` meets its contract: on one line and off it, its parts are those of the definition.
use mathlib.Core.Path.{sym, ◌∙◌, ap, ap₂}
use mathlib.Core.Bool.{Bool, not, ◌&&◌}
use Rattle.std.specs.Bool.{then_some}
use Rattle.geometry.specs.declared.line_segment.ContactKind.TheVariants.{Crossing}
use Rattle.geometry.specs.Segment.{same_side}
use Rattle.geometry.specs.Lent.{spot}
use Rattle.geometry.proofs.Reading.{read_64, read_given}
use Rattle.geometry.proofs.MeetingParts.{on_line, kind_on_line, kind_off_line, fourth_is, fourth_fits}
use Rattle.geometry.proofs.line_segment.contact_by_turns.Goals as goal

pub returns-then-p-q : goal.returns-then-p-q
returns-then-p-q c =
    let s = c.args in
    c.then_some.ensures ∙ kind_on_line (spot s.a.point) (spot s.b.point) (spot s.c.point) (spot s.d.point) c.overlap.ensures (sym (on_line (spot s.a.point) (spot s.b.point) (spot s.c.point) (spot s.d.point) c.ranges.p c.ranges.q c.requires.0 c.requires.1) ∙ c.if-p-q.true)

pub fourth-s-requires : goal.fourth-s-requires
fourth-s-requires c =
    let s = c.args in
    let h = c.requires in
    fourth_fits (s.a.near, s.b.near, s.c.near, s.d.near) (read_given c.ranges.p h.0) (read_given c.ranges.q h.1) (read_64 c.turn_of-r.type_inv c.turn_of-r.ensures)

pub returns : goal.returns
returns c =
    let s = c.args in
    let h = c.requires in
    let p = read_given c.ranges.p h.0 in
    let q = read_given c.ranges.q h.1 in
    let r = read_64 c.turn_of-r.type_inv c.turn_of-r.ensures in
    let t = read_64 c.fourth-s.type_inv (c.fourth-s.ensures ∙ fourth_is (s.a.near, s.b.near, s.c.near, s.d.near) p q r) in
    c.then_some-2.ensures
    ∙ ap (λ (k : Bool). then_some k Crossing) (ap₂ ◌&&◌ (ap not h.2) (ap₂ ◌&&◌ (ap not (c.same_side.ensures ∙ ap₂ same_side p q)) (ap not (c.same_side-2.ensures ∙ ap₂ same_side r t))))
    ∙ kind_off_line (spot s.a.point) (spot s.b.point) (spot s.c.point) (spot s.d.point) (sym (on_line (spot s.a.point) (spot s.b.point) (spot s.c.point) (spot s.d.point) c.ranges.p c.ranges.q c.requires.0 c.requires.1) ∙ c.if-p-q.false)
