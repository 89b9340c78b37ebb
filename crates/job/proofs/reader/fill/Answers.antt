use Rattle.std.proofs.Common.{sym, arith}
use lib.ListN.{take}
use lib.Seq.{length-take-le}
use Rattle.job.proofs.Written.{over_none, over_step, over_front}
use Rattle.job.proofs.reader.fill.Goals as goal

pub loop-i-init : goal.loop-i-init
loop-i-init g c = sym (over_none (take c.args.n c.args.out.now) g.entry)

pub loop-i-preserved : goal.loop-i-preserved
loop-i-preserved g c =
    let long = length-take-le c.args.n c.args.out.now c.requires.1.1.0 in
    over_step (take c.args.n c.args.out.now) g.entry c.loop-i.invariant c.loop-i-test.true (c.requires.1.1.1.1 c.loop-i.i c.read.result (omega (arith, long, c.loop-i-test.true)) c.read.ensures)

pub returns : goal.returns
returns g c =
    let long = length-take-le c.args.n c.args.out.now c.requires.1.1.0 in
    over_front c.args.out.now g.entry c.loop-i.invariant (omega (arith, long, c.loop-i-test.false, c.loop-i.auto.i-end))
