-- The entries so far are written.
use Rattle.std.proofs.Common.{take}
use Rattle.job.specs.Writing.{Wrote}
use Rattle.image.specs.Halves.{halves_of}
use Rattle.image.proofs.writing.put_ring.Given as goal

abbrev pub invariant-loop-v : goal.invariant-loop-v
invariant-loop-v l = Wrote l.initial.w l.w (halves_of (take l.v-index l.ring))
