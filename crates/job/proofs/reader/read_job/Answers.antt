-- A job that no check refuses is read by its header's words.
use Rattle.std.proofs.Common.{sym}
use Rattle.std.proofs.lemmas.Result.{err_from_is_err_and}
use Rattle.job.proofs.Refusals.{refused_reading, accepted_reading}
use Rattle.job.proofs.reader.read_job.Goals as goal

pub returns-in_err-header : goal.returns-in_err-header
returns-in_err-header c =
    let a = c.args in
    let p = err_from_is_err_and c.from_residual.result c.from_residual.ensures.1 in
    rw (p.1, p.2) (refused_reading a.job.now a.x.now a.y.now a.picks.now _ c.in_err-header.ensures.number)

pub returns : goal.returns
returns c =
    let a = c.args in
    let e = c.in_ok-header.ensures.words in
    rw e
    (accepted_reading a.job.now a.x.now a.y.now a.picks.now (sym c.in_ok-header.ensures.number)
    (rw e at c.fill.ensures) (rw e at c.fill-2.ensures) (rw e at c.fill-3.ensures))
