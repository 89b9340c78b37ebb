-- Each call gives the next of the fields.
use Rattle.std.proofs.Common.{rules, tests, sym, ap, ◌∙◌, ◌∷◌}
use Rattle.board_text.specs.Lines.{cut, up_to_three}
use Rattle.board_text.proofs.Taken.{taken_none, taken_some, taken_more, taken_no_more, yields_fields}
use Rattle.board_text.proofs.line.read_fields.Goals as goal

pub returns-in_default : goal.returns-in_default
returns-in_default c =
    let parts = ap cut (sym c.before_comment.ensures) in
    let none = taken_none (cut c.before_comment.result.now) _ c.next.ensures.steps (yields_fields _ _ c.before_comment.result.now c.filter-fields.ensures.source c.split.ensures.rest c.split.ensures.done c.split.ensures.closure (λ x r q k. search (rules, tests)) c.filter-fields.ensures.closure (λ x r q k. search (rules, tests))) c.in_default.is in
    sym (ap up_to_three (parts ∙ none))

pub returns-in_default-next : goal.returns-in_default-next
returns-in_default-next c =
    let a = c.in-Some.first.now in
    let parts = ap cut (sym c.before_comment.ensures) in
    let one = taken_some (cut c.before_comment.result.now) _ c.in-Some.first c.next.ensures.steps (yields_fields _ _ c.before_comment.result.now c.filter-fields.ensures.source c.split.ensures.rest c.split.ensures.done c.split.ensures.closure (λ x r q k. search (rules, tests)) c.filter-fields.ensures.closure (λ x r q k. search (rules, tests))) c.in-Some.is in
    let none = taken_none one.0 _ c.next-2.ensures.steps one.2 c.in_default-next.is in
    sym (ap up_to_three (parts ∙ one.1 ∙ ap (λ l. a ∷ l) none))

pub returns-in_default-next-2 : goal.returns-in_default-next-2
returns-in_default-next-2 c =
    let a = c.in-Some.first.now in
    let b = c.in-Some-next.second.now in
    let parts = ap cut (sym c.before_comment.ensures) in
    let one = taken_some (cut c.before_comment.result.now) _ c.in-Some.first c.next.ensures.steps (yields_fields _ _ c.before_comment.result.now c.filter-fields.ensures.source c.split.ensures.rest c.split.ensures.done c.split.ensures.closure (λ x r q k. search (rules, tests)) c.filter-fields.ensures.closure (λ x r q k. search (rules, tests))) c.in-Some.is in
    let two = taken_some one.0 _ c.in-Some-next.second c.next-2.ensures.steps one.2 c.in-Some-next.is in
    let none = taken_none two.0 _ c.next-3.ensures.steps two.2 c.in_default-next-2.is in
    sym (ap up_to_three (parts ∙ one.1 ∙ ap (λ l. a ∷ l) two.1 ∙ ap (λ l. a ∷ b ∷ l) none))

pub returns-then-is_some : goal.returns-then-is_some
returns-then-is_some c =
    let a = c.in-Some.first.now in
    let b = c.in-Some-next.second.now in
    let d = c.in-Some-next-2.third.now in
    let parts = ap cut (sym c.before_comment.ensures) in
    let one = taken_some (cut c.before_comment.result.now) _ c.in-Some.first c.next.ensures.steps (yields_fields _ _ c.before_comment.result.now c.filter-fields.ensures.source c.split.ensures.rest c.split.ensures.done c.split.ensures.closure (λ x r q k. search (rules, tests)) c.filter-fields.ensures.closure (λ x r q k. search (rules, tests))) c.in-Some.is in
    let two = taken_some one.0 _ c.in-Some-next.second c.next-2.ensures.steps one.2 c.in-Some-next.is in
    let three = taken_some two.0 _ c.in-Some-next-2.third c.next-3.ensures.steps two.2 c.in-Some-next-2.is in
    let more = taken_more three.0 c.next-4.result _ c.next-4.ensures.steps three.2 (sym c.is_some.ensures ∙ c.if-is_some.true) in
    sym (ap up_to_three (parts ∙ one.1 ∙ ap (λ l. a ∷ l) two.1 ∙ ap (λ l. a ∷ b ∷ l) three.1 ∙ ap (λ l. a ∷ b ∷ d ∷ l) more.2))

pub returns : goal.returns
returns c =
    let a = c.in-Some.first.now in
    let b = c.in-Some-next.second.now in
    let d = c.in-Some-next-2.third.now in
    let parts = ap cut (sym c.before_comment.ensures) in
    let one = taken_some (cut c.before_comment.result.now) _ c.in-Some.first c.next.ensures.steps (yields_fields _ _ c.before_comment.result.now c.filter-fields.ensures.source c.split.ensures.rest c.split.ensures.done c.split.ensures.closure (λ x r q k. search (rules, tests)) c.filter-fields.ensures.closure (λ x r q k. search (rules, tests))) c.in-Some.is in
    let two = taken_some one.0 _ c.in-Some-next.second c.next-2.ensures.steps one.2 c.in-Some-next.is in
    let three = taken_some two.0 _ c.in-Some-next-2.third c.next-3.ensures.steps two.2 c.in-Some-next-2.is in
    let none = taken_no_more three.0 c.next-4.result _ c.next-4.ensures.steps three.2 (sym c.is_some.ensures ∙ c.if-is_some.false) in
    sym (ap up_to_three (parts ∙ one.1 ∙ ap (λ l. a ∷ l) two.1 ∙ ap (λ l. a ∷ b ∷ l) three.1 ∙ ap (λ l. a ∷ b ∷ d ∷ l) none))
