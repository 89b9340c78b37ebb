-- `index_part` meets its contract: after each write one point more is found, until none is left out.
use Rattle.std.proofs.Common.{length}
use Rattle.polygon.specs.Ring.{IndexedBut}
use Rattle.polygon.proofs.polygon.index_part.Given as goal

abbrev pub invariant-loop-i : goal.invariant-loop-i
invariant-loop-i l = IndexedBut (length l.ring) l.ring l.index l.i l.to
