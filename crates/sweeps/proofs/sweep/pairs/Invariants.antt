-- Whatever store the set held, it now holds it after the sweeps for the ring's edges before i.
use mathlib.Core.Path.{◌≡◌}
use lib.ListN.{take}
use Rattle.geometry.specs.Spots.{spots}
use Rattle.polygon.specs.Edges.{edges}
use Rattle.intersection_set.specs.Store.{Store}
use Rattle.intersection_set.specs.Set.{pool_in, SameBuffers}
use Rattle.intersection_set.specs.Holds.{Holds}
use Rattle.sweeps.specs.Several.{sweeps_over, FitAll}
use Rattle.sweeps.specs.declared.candidate.Against.TheVariants.{Greater}
use Rattle.sweeps.proofs.sweep.pairs.Given as goal

abbrev pub invariant-loop-i : goal.invariant-loop-i
invariant-loop-i l =
    let n = l.initial.set.vertices in
    let pt = spots l.points in
    let all = edges n l.ring in
    record {
      same : SameBuffers l.initial.set l.set;
      free : l.set.free.now ≡ l.initial.set.free.now;
      holds : (s : Store) → Holds n (pool_in l.initial.set) s → FitAll n pt l.ring Greater all s
          → Holds n (pool_in l.set) (sweeps_over pt Greater all (take l.i all) s);
    }
