-- `kink_and_edge` meets its contract: the two runs are those of the edges, and one run where the second edge lies on the first one's.
use mathlib.Core.Path.{◌∙◌, subst}
use Prim.Native.Nat.{◌<◌}
use Rattle.polygon.specs.Ring.{dist}
use Rattle.machine.proofs.Corners.{has_corner}
use Rattle.moves.specs.Walk.{ring_of, place_of, point_of}
use Rattle.moves.specs.declared.extremes.Run.{Run}
use Rattle.moves.proofs.RunSteps.{run_in, moved_run}
use Rattle.moves.proofs.KinkSearch.{both_runs, run_of_both}
use Rattle.moves.proofs.SameRun.{same_run}
use Rattle.moves.proofs.search.kink_and_edge.Goals as goal

pub distance-requires : goal.distance-requires
distance-requires c = let v = c.args.da in let z = run_in (point_of v) (ring_of v) v.on_ring.2 c.linear_extremes-a.ensures in rw z.size (z.below, c.requires.0.below)

pub search_run-requires : goal.search_run-requires
search_run-requires c = let v = c.args.da in run_in (point_of v) (ring_of v) v.on_ring.2 c.linear_extremes-a.ensures

pub returns-then-distance-a : goal.returns-then-distance-a
returns-then-distance-a c =
    let v = c.args.da in
    let n = v.points.n in
    let pt = point_of v in
    let r = ring_of v in
    let j = c.args.db.id.0 in
    let e = c.linear_extremes-a.ensures in
    let board = c.requires.1 in
    let (k, lk, ck) = has_corner n pt board.three board.distinct r v.on_ring.0 board.not_line in
    let on = subst (λ (q : Run). dist q.from.size q.from.id.0 j < q.edges) e (subst (λ m. m < c.linear_extremes-a.result.edges) c.distance.ensures c.if-distance-a.true) in
    c.search_run.ensures ∙ run_of_both n pt r (place_of v) j e (same_run n pt r k lk ck (place_of v) j v.on_ring.2 c.requires.0.below on)

pub search_runs-requires : goal.search_runs-requires
search_runs-requires c =
    let v = c.args.da in (
      run_in (point_of v) (ring_of v) v.on_ring.2 c.linear_extremes-a.ensures,
      run_in (point_of v) (ring_of v) c.requires.0.below (moved_run c.at.ensures c.linear_extremes-b.ensures),
    )

pub returns : goal.returns
returns c =
    let v = c.args.da in
    c.search_runs.ensures ∙ both_runs v.points.n (point_of v) (ring_of v) (place_of v) c.args.db.id.0 c.linear_extremes-a.ensures (moved_run c.at.ensures c.linear_extremes-b.ensures)
