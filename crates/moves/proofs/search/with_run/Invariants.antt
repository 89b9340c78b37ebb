-- `with_run` meets its contract. The loop's invariant: the points from here on, with the best pair so far, come to the same pair, and the points at this place and
-- before it are carried.
use Prim.Native.Nat.{suc, ◌-◌}
use Rattle.geometry.specs.Lent.{spot}
use Rattle.moves.specs.Walk.{ring_of, place_of, point_of}
use Rattle.moves.specs.Runs.{points_of, run_edges}
use Rattle.moves.specs.Best.{over_kinks}
use Rattle.moves.specs.declared.extremes.Direction.TheVariants.{On}
use Rattle.moves.proofs.RingWalk.{Walk}
use Rattle.moves.proofs.Carried.{Carried}
use Rattle.moves.proofs.KinkSearch.{go_on}
use Rattle.moves.proofs.search.with_run.Given as goal

abbrev pub invariant-loop : goal.invariant-loop
invariant-loop l =
    let v = l.on in
    let n = v.points.n in
    Walk v (go_on v l.a l.b l.best) (over_kinks n (point_of v) (ring_of v) (run_edges n l.a l.b) (points_of n l.fn.run) l.fn.start) l.at (suc l.fn.run.edges - l.counter)
    × Carried On n (point_of v) (ring_of v) (place_of l.at) (spot l.before.point) (spot l.here.point)
