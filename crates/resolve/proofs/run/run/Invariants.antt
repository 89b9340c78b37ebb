-- The set holds the machine after the picks before i, each of which made one move; and the tree is that of its ring.
use mathlib.Core.Path.{◌≡◌}
use mathlib.Core.List.{[]}
use lib.ListN.{length, take}
use Rattle.geometry.specs.Spots.{spots}
use Rattle.polygon.specs.Lent.{SameLoans}
use Rattle.intersection_set.specs.Set.{pool_in, SameBuffers}
use Rattle.machine.specs.Machine.{State, run_word, place}
use Rattle.machine.specs.Onward.{from}
use Rattle.box_tree.specs.Tree.{ring_tree}
use Rattle.untangle.specs.Running.{Running}
use Rattle.resolve.proofs.run.run.Given as goal

abbrev pub invariant-loop-i : goal.invariant-loop-i
invariant-loop-i l =
    let n = l.initial.set.vertices in
    let pt = spots l.points in
    record {
      same : SameBuffers l.initial.set l.set;
      loans : SameLoans l.initial.polygon l.polygon;
      tree : l.tree ≡ ring_tree n pt l.polygon.ring.now;
      ran : (s : State) → Running n pt s [] l.initial.polygon.ring.now l.initial.polygon.index.now (pool_in l.initial.set) → Running n pt s (take l.i l.picks) l.polygon.ring.now l.polygon.index.now (pool_in l.set) × (length (run_word n pt place (take l.i l.picks) (from s)).log ≡ l.i);
    }
