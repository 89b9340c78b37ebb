use Rattle.std.proofs.Common.{take, arith}
use Rattle.std.proofs.Math.Seq.{length-take-le}
use Rattle.job.proofs.Writing.{wrote_none, wrote_then}
use Rattle.image.specs.Halves.{halves_of}
use Rattle.image.proofs.Halves.{length_halves, halves_next}
use Rattle.image.proofs.writing.put_ring.Goals as goal

pub loop-v-init : goal.loop-v-init
unfolding halves_of
loop-v-init c = wrote_none c.args.w.now

pub put_half-requires : goal.put_half-requires
put_half-requires c =
    let i = c.loop-v.v-index in
    let ring = c.args.ring.now in
    omega (arith, c.loop-v.invariant.text.next, length_halves (take i ring), length-take-le i ring)

pub loop-v-preserved : goal.loop-v-preserved
loop-v-preserved c = rw (halves_next c.args.ring.now c.loop-v.v-index c.loop-v-test.true) (wrote_then c.loop-v.invariant c.put_half.ensures)
