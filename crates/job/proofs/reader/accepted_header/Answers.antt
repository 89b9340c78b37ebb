-- The words are those of the job, and no job meets check 3, since its bytes are below 256.
use Rattle.std.proofs.Common.{arith}
use Rattle.std.proofs.lemmas.Result.{err_from_is_err_and}
use Rattle.job.proofs.Refusals.{wrong_length, of_words}
use Rattle.job.proofs.reader.accepted_header.Goals as goal

pub returns-then-job-lt20-clause-number : goal.returns-then-job-lt20-clause-number
returns-then-job-lt20-clause-number c = wrong_length _ _ _ _ c.then-job-lt20.either

pub returns-in_err-check-clause-number : goal.returns-in_err-check-clause-number
returns-in_err-check-clause-number c =
    let a = c.args in
    let p = err_from_is_err_and c.from_residual.result c.from_residual.ensures.1 in
    of_words a.job.now _ _ _ _ _ a.room.x a.room.y a.room.picks (record { byte = λ i. omega (arith, c.type_inv.job i) })
    c.word_at.ensures c.word_at-2.ensures c.word_at-3.ensures c.word_at-4.ensures c.word_at-5.ensures (rw (p.1, p.2) (rw c.in_err-check.was at c.check.ensures.number))

pub returns-clause-number : goal.returns-clause-number
returns-clause-number c =
    let a = c.args in
    of_words a.job.now _ _ _ _ _ a.room.x a.room.y a.room.picks (record { byte = λ i. omega (arith, c.type_inv.job i) })
    c.word_at.ensures c.word_at-2.ensures c.word_at-3.ensures c.word_at-4.ensures c.word_at-5.ensures (rw c.in_ok-check.was at c.check.ensures.number)
