-- `contact` meets its contract: past the limits, the check is whether two ends are equal.
use mathlib.Core.Path.{sym, ◌∙◌, ap}
use mathlib.Core.Bool.{not}
use Rattle.geometry.specs.Lent.{spot}
use Rattle.geometry.specs.Answers.{answered, contact}
use Rattle.geometry.proofs.Derived.{same_is}
use Rattle.geometry.proofs.Choosing.{passed, stopped, both_proper}
use Rattle.geometry.proofs.line_segment.contact.Goals as goal

pub returns-then-eq : goal.returns-then-eq
returns-then-eq c =
    let a1 = c.in_ok-a1.a1 in
    let a2 = c.in_ok-a2.a2 in
    let b1 = c.in_ok-b1.b1 in
    let b2 = c.in_ok-b2.b2 in
    let check_is = both_proper a1.near a2.near b1.near b2.near (c.eq.ensures ∙ same_is a1.point a2.point) (c.eq-2.ensures ∙ same_is b1.point b2.point) in
    stopped _ _ (sym check_is ∙ ap not c.if-eq.true) ∙ (λ t. contact (spot (c.in_ok-a1.ensures t)) (spot (c.in_ok-a2.ensures t)) (spot (c.in_ok-b1.ensures t)) (spot (c.in_ok-b2.ensures t)))

pub returns : goal.returns
returns c =
    let a1 = c.in_ok-a1.a1 in
    let a2 = c.in_ok-a2.a2 in
    let b1 = c.in_ok-b1.b1 in
    let b2 = c.in_ok-b2.b2 in
    let check_is = both_proper a1.near a2.near b1.near b2.near (c.eq.ensures ∙ same_is a1.point a2.point) (c.eq-2.ensures ∙ same_is b1.point b2.point) in
    ap answered c.segments_contact.ensures ∙ passed _ _ (sym check_is ∙ ap not c.if-eq.false)
    ∙ (λ t. contact (spot (c.in_ok-a1.ensures t)) (spot (c.in_ok-a2.ensures t)) (spot (c.in_ok-b1.ensures t)) (spot (c.in_ok-b2.ensures t)))
