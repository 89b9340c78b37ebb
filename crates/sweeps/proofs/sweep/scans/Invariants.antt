-- Whatever store the set held, it now holds it after the sweeps for the edges before this one.
use mathlib.Core.Path.{◌≡◌}
use mathlib.Core.List.{map}
use lib.ListN.{take}
use Rattle.geometry.specs.Spots.{spots}
use Rattle.index_edge.specs.Number.{edge_of}
use Rattle.polygon.specs.Edges.{edges}
use Rattle.intersection_set.specs.Store.{Store}
use Rattle.intersection_set.specs.Set.{pool_in, SameBuffers}
use Rattle.intersection_set.specs.Holds.{Holds}
use Rattle.sweeps.specs.Several.{sweeps_over, FitAll}
use Rattle.sweeps.specs.declared.candidate.Against.TheVariants.{Others}
use Rattle.sweeps.proofs.sweep.scans.Given as goal

abbrev pub invariant-loop-edge : goal.invariant-loop-edge
invariant-loop-edge l =
    let n = l.initial.set.vertices in
    let pt = spots l.points in
    let all = map edge_of l.inserted in
    record {
      same : SameBuffers l.initial.set l.set;
      free : l.set.free.now ≡ l.initial.set.free.now;
      holds : (s : Store) → Holds n (pool_in l.initial.set) s → FitAll n pt l.ring Others all s
          → Holds n (pool_in l.set) (sweeps_over pt Others (edges n l.ring) (take l.edge-index all) s);
    }
