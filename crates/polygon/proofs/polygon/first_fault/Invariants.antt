-- `first_fault` meets its contract: what is passed is right and marked, so that an entry is at fault where it is too large or its mark is set.
use Rattle.std.proofs.Common.{length}
use Rattle.polygon.proofs.FirstFault.{Passed}
use Rattle.polygon.proofs.polygon.first_fault.Given as goal

abbrev pub invariant-loop-i : goal.invariant-loop-i
invariant-loop-i l = Passed (length l.ring) l.ring l.seen l.i
