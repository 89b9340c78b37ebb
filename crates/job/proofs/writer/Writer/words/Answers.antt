use Rattle.std.proofs.Common.{take, arith}
use Rattle.std.proofs.Math.Seq.{length-take-le}
use Rattle.job.specs.Words.{bytes_of}
use Rattle.job.proofs.Writing.{wrote_none, wrote_then}
use Rattle.job.proofs.Bytes.{length_bytes, bytes_next}
use Rattle.job.proofs.writer.Writer.words.Goals as goal

pub loop-w-init : goal.loop-w-init
unfolding bytes_of
loop-w-init c = wrote_none c.args.self.now

pub word-requires : goal.word-requires
word-requires c =
    let i = c.loop-w.w-index in
    let ws = c.args.ws.now in
    omega (arith, c.loop-w.invariant.text.next, length_bytes (take i ws), length-take-le i ws)

pub loop-w-preserved : goal.loop-w-preserved
loop-w-preserved c = rw (bytes_next c.args.ws.now c.loop-w.w-index c.loop-w-test.true) (wrote_then c.loop-w.invariant c.word.ensures)
