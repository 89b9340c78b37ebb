-- `vertices_join` meets its contract: each swap brings the point one place back, and to go on from there comes to the same ring.
use Rattle.std.proofs.Common.{length}
use Rattle.polygon.specs.Ring.{dist}
use Rattle.polygon.specs.Lent.{SameLoans}
use Rattle.polygon.proofs.PositionLoops.{Coming}
use Rattle.polygon.proofs.polygon.Polygon.vertices_join.Given as goal

abbrev pub invariant-loop-pt2 : goal.invariant-loop-pt2
invariant-loop-pt2 l = SameLoans l.initial.self l.self × Coming (length l.initial.self.ring.now) l.initial.self.ring.now l.pt1.id.0 l.initial.pt2.id.0 l.self.ring.now l.pt2

abbrev pub decreases-loop-pt2 : goal.decreases-loop-pt2
decreases-loop-pt2 l = dist (length l.initial.self.ring.now) l.pt1.id.0 l.pt2.id.0
