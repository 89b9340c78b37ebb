-- Whatever store the set held, it now holds it without the records of the edges before this one.
use mathlib.Core.Path.{◌≡◌}
use mathlib.Core.List.{map}
use lib.ListN.{take}
use Rattle.index_edge.specs.Number.{edge_of}
use Rattle.intersection_set.specs.Store.{Store, removes}
use Rattle.intersection_set.specs.Set.{pool_in, SameBuffers}
use Rattle.intersection_set.specs.Holds.{Holds}
use Rattle.sweeps.proofs.sweep.remove_edges.Given as goal

abbrev pub invariant-loop-edge : goal.invariant-loop-edge
invariant-loop-edge l =
    let n = l.initial.set.vertices in
    record {
      same : SameBuffers l.initial.set l.set;
      ends : l.set.ends.now ≡ l.initial.set.ends.now;
      holds : (s : Store) → Holds n (pool_in l.initial.set) s → Holds n (pool_in l.set) (removes (take l.edge-index (map edge_of l.removed)) s);
    }
