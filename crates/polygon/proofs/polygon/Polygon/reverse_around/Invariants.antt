-- `reverse_around` meets its contract: each swap leaves a shorter stretch whose reversal comes to the same ring.
use Rattle.std.proofs.Common.{length}
use Rattle.polygon.specs.Ring.{dist}
use Rattle.polygon.specs.Lent.{SameLoans}
use Rattle.polygon.proofs.PositionLoops.{Reversing}
use Rattle.polygon.proofs.polygon.Polygon.reverse_around.Given as goal

abbrev pub invariant-loop-pt1 : goal.invariant-loop-pt1
invariant-loop-pt1 l = SameLoans l.initial.self l.self × Reversing (length l.initial.self.ring.now) l.initial.self.ring.now l.initial.pt1.id.0 l.initial.pt2.id.0 l.self.ring.now l.pt1 l.pt2

abbrev pub decreases-loop-pt1 : goal.decreases-loop-pt1
decreases-loop-pt1 l = dist (length l.initial.self.ring.now) l.pt1.id.0 l.pt2.id.0
