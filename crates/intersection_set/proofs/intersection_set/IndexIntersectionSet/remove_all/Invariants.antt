-- What is left of the set: removing all of the edge from it gives the same.
use mathlib.Core.Path.{◌≡◌}
use Rattle.index_edge.specs.Number.{edge_of}
use Rattle.intersection_set.specs.Set.{pool_in, SameBuffers}
use Rattle.intersection_set.proofs.Removing.{Left}
use Rattle.intersection_set.proofs.intersection_set.IndexIntersectionSet.remove_all.Given as goal

abbrev pub invariant-loop-newest : goal.invariant-loop-newest
invariant-loop-newest l =
    record {
      same : SameBuffers l.initial.self l.self;
      ends : l.self.ends.now ≡ l.initial.self.ends.now;
      left : Left l.initial.self.vertices (edge_of l.e) (pool_in l.initial.self) (pool_in l.self);
    }

abbrev pub decreases-loop-newest : goal.decreases-loop-newest
decreases-loop-newest l = l.self.counts.live
