-- Whatever store the set held, it now holds it with the records of the edges found before this one.
use Rattle.std.specs.Prelude.{◌≡◌, map, take}
use Rattle.geometry.specs.Spots.{spots}
use Rattle.index_edge.specs.Number.{edge_of}
use Rattle.polygon.specs.Edges.{edge_at}
use Rattle.intersection_set.specs.Store.{Store}
use Rattle.intersection_set.specs.Set.{pool_in, SameBuffers}
use Rattle.intersection_set.specs.Holds.{Holds}
use Rattle.sweeps.specs.Query.{contacts}
use Rattle.sweeps.specs.Sweep.{sweep_over, Fits}
use Rattle.sweeps.proofs.sweep.sweep.Given as goal

abbrev pub invariant-loop-at : goal.invariant-loop-at
invariant-loop-at l =
    let n = l.initial.set.vertices in
    let pt = spots l.points in
    let e = edge_of l.edge in
    let r = l.ring in
    let found = map (edge_at n r) (contacts n pt r e) in
    record {
      same : SameBuffers l.initial.set l.set;
      free : l.set.free.now ≡ l.initial.set.free.now;
      holds : (s : Store) → Holds n (pool_in l.initial.set) s → Fits n pt r l.against e s
          → Holds n (pool_in l.set) (sweep_over pt l.against e (take l.at-index found) s);
    }
