-- `pass_beside` meets its contract. The loop's invariant: every edge passed has both ends on the side that `below` tells, so that the search on from here comes to the same pair.
use Prim.Native.Nat.{ℕ, ◌≤◌}
use mathlib.Core.Path.{◌≡◌}
use Rattle.moves.specs.Beside.{Starts, on_from}
use Rattle.moves.specs.declared.search.Best.{Best}
use Rattle.moves.proofs.search.pass_beside.Given as goal

abbrev pub invariant-loop-passed : goal.invariant-loop-passed
invariant-loop-passed l =
    Starts l.kink.vertex l.below l.at
    × ((b : Best) (after : ℕ) → l.end ≤ after → on_from l.kink.vertex b after (record { at = l.at; passed = l.passed }) ≡ on_from l.kink.vertex b after l.fn.start)
