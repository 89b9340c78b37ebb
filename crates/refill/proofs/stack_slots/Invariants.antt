-- The slots of the first i records stand where their ages put them.
use Rattle.std.proofs.Common.{◌≡◌, length}
use Rattle.refill.proofs.Filling.{Stacked}
use Rattle.refill.proofs.stack_slots.Given as goal

abbrev pub invariant-loop-i : goal.invariant-loop-i
invariant-loop-i g l = (length l.free ≡ length l.initial.free) × Stacked g.lines l.free l.i
