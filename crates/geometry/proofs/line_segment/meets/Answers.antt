-- `meets` meets its contract: a contact is refused, or its kind is none or not.
use mathlib.Core.Path.{◌≡◌, ◌∙◌, ap}
use borrow.Author.Rules.{rules}
use Rattle.refusal.specs.Number.{number_of}
use Rattle.geometry.specs.Lent.{spot}
use Rattle.geometry.specs.Answers.{refused, answered, told}
use Rattle.geometry.proofs.Contacts.{some_of}
use Rattle.geometry.proofs.Answering.{met, meeting_is}
use Rattle.geometry.proofs.line_segment.meets.Goals as goal

pub returns-in_err-contact : goal.returns-in_err-contact
returns-in_err-contact c =
    let s = c.args in
    let e : told c.from_residual.result ≡ refused (number_of c.in_err-contact.field-0.0) = search rules in
    e ∙ ap met c.in_err-contact.ensures ∙ meeting_is (spot s.a1) (spot s.a2) (spot s.b1) (spot s.b2)

pub returns : goal.returns
returns c =
    let s = c.args in
    ap answered (c.is_some.ensures ∙ some_of c.in_ok-contact.field-0) ∙ ap met c.in_ok-contact.ensures ∙ meeting_is (spot s.a1) (spot s.a2) (spot s.b1) (spot s.b2)
