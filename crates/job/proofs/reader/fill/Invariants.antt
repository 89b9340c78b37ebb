-- The first i places are written over.
use Rattle.std.proofs.Common.{◌≡◌}
use Rattle.job.specs.Buffers.{over}
use Rattle.job.proofs.reader.fill.Given as goal

abbrev pub invariant-loop-i : goal.invariant-loop-i
invariant-loop-i g l = l.part ≡ over l.initial.part g.entry l.i
