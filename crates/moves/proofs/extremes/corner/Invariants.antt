-- `corner` meets its contract. The loop's invariant: to go on from here comes to the same corner, and the points at this place and the one behind it are carried.
use Prim.Native.Nat.{◌-◌}
use Rattle.geometry.specs.Lent.{spot}
use Rattle.moves.specs.Walk.{ring_of, place_of, point_of}
use Rattle.moves.specs.Runs.{corner}
use Rattle.moves.proofs.RingWalk.{Walk}
use Rattle.moves.proofs.Carried.{Carried}
use Rattle.moves.proofs.extremes.corner.Given as goal

abbrev pub invariant-loop : goal.invariant-loop
invariant-loop l =
    let v = l.start in
    Walk v (λ k i. corner l.way v.points.n (point_of v) k (ring_of v) i) (corner l.way v.points.n (point_of v) v.points.n (ring_of v) (place_of v)) l.at (v.points.n - l.counter)
    × Carried l.way v.points.n (point_of v) (ring_of v) (place_of l.at) (spot l.behind.point) (spot l.here.point)
