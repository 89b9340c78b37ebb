-- `least_at` meets its contract. The loop's invariant: `least` is the position of the least of the points before i.
use Prim.Native.Nat.{◌-◌}
use mathlib.Core.Path.{◌≡◌}
use Rattle.polygon.specs.Place.{position}
use Rattle.machine.specs.Answer.{least_to}
use Rattle.moves.specs.Walk.{ring_of, point_of}
use Rattle.checks.proofs.start.least_at.Given as goal

abbrev pub invariant-loop-i : goal.invariant-loop-i
invariant-loop-i l = l.least ≡ position l.on.points.n (least_to l.on.points.n (point_of l.on) (ring_of l.on) (l.i - 1))
