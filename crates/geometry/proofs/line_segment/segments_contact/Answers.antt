-- `segments_contact` meets its contract: the kind without its ends tells which case of the definition it is.
use mathlib.Core.Path.{◌∙◌, ap}
use Rattle.geometry.specs.Lent.{spot}
use Rattle.geometry.specs.Answers.{kind_of}
use Rattle.geometry.proofs.Contacts.{is_none, is_crossing, is_overlap}
use Rattle.geometry.proofs.line_segment.segments_contact.Goals as goal

pub returns-in_err-contact_by_turns : goal.returns-in_err-contact_by_turns
returns-in_err-contact_by_turns c =
    let s = c.args in
    ap kind_of c.from_residual.ensures ∙ is_none (spot s.a.point) (spot s.b.point) (spot s.c.point) (spot s.d.point) c.in_err-contact_by_turns.ensures

pub returns-in-Crossing : goal.returns-in-Crossing
returns-in-Crossing c =
    let s = c.args in
    is_crossing (spot s.a.point) (spot s.b.point) (spot s.c.point) (spot s.d.point) (rw c.in-Crossing.is at c.in_ok-contact_by_turns.ensures)

pub returns-in-Overlap : goal.returns-in-Overlap
returns-in-Overlap c =
    let s = c.args in
    c.overlap_of.ensures ∙ is_overlap (spot s.a.point) (spot s.b.point) (spot s.c.point) (spot s.d.point) (rw c.in-Overlap.is at c.in_ok-contact_by_turns.ensures)
