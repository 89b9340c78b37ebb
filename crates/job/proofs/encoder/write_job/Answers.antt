use Rattle.std.proofs.Common.{rules}
use Rattle.job.proofs.Writing.{wrote_then}
use Rattle.job.proofs.Encoding.{job_is}
use Rattle.job.proofs.encoder.write_job.Goals as goal

pub returns : goal.returns
returns c =
    let parts = wrote_then c.words.ensures (wrote_then c.put_pairs.ensures c.words-2.ensures) in
    let whole = rw (c.header.ensures, ← job_is c.args.x.now c.args.y.now c.args.picks.now) at parts in
    record { answer = c.in_ok-total.ensures.length; bytes = search rules }
