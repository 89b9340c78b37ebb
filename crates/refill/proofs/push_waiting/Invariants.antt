-- As many of the oldest records are pushed as turns were made.
use Rattle.intersection_set.specs.Set.{pool_in, SameBuffers}
use Rattle.intersection_set.specs.Holds.{Holds}
use Rattle.refill.specs.Filling.{filled}
use Rattle.refill.proofs.push_waiting.Given as goal

abbrev pub invariant-loop : goal.invariant-loop
invariant-loop g l =
    record {
      same : SameBuffers l.initial.set l.set;
      holds : Holds l.initial.set.vertices (pool_in l.set) (filled g.lines l.counter);
    }
