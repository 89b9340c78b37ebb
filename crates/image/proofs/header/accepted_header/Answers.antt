-- The words are those of the image.
use Rattle.std.proofs.lemmas.Result.{err_from_is_err_and}
use Rattle.image.proofs.Checking.{too_short, of_words}
use Rattle.image.proofs.header.accepted_header.Goals as goal

pub returns-then-image-lt28-clause-number : goal.returns-then-image-lt28-clause-number
returns-then-image-lt28-clause-number c = too_short c.args.image.now c.if-image-lt28.true

pub returns-in_err-check-clause-number : goal.returns-in_err-check-clause-number
returns-in_err-check-clause-number c =
    let p = err_from_is_err_and c.from_residual.result c.from_residual.ensures.1 in
    of_words c.args.image.now _ _ _ _ _ _ _
    c.word_at.ensures c.word_at-2.ensures c.word_at-3.ensures c.word_at-4.ensures c.word_at-5.ensures c.word_at-6.ensures c.word_at-7.ensures
    (rw (p.1, p.2) (rw c.in_err-check.was at c.check.ensures.number))

pub returns-clause-number : goal.returns-clause-number
returns-clause-number c =
    of_words c.args.image.now _ _ _ _ _ _ _
    c.word_at.ensures c.word_at-2.ensures c.word_at-3.ensures c.word_at-4.ensures c.word_at-5.ensures c.word_at-6.ensures c.word_at-7.ensures
    (rw c.in_ok-check.was at c.check.ensures.number)
