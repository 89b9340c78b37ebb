-- `better_on_run` meets its contract. The loop's invariant: the search on from here comes to the same pair, and `below` tells of the edge's start.
use Prim.Native.Nat.{◌+◌, ◌-◌}
use mathlib.Core.Path.{◌≡◌}
use Rattle.moves.specs.Beside.{Starts, on_from}
use Rattle.moves.proofs.search.better_on_run.Given as goal

abbrev pub invariant-loop-edge : goal.invariant-loop-edge
invariant-loop-edge l =
    let after = l.fn.before + l.fn.run.edges in
    Starts l.kink.vertex l.below l.edge.at
    × (on_from l.kink.vertex l.best after l.edge ≡ on_from l.kink.vertex l.best after (record { at = l.fn.run.from; passed = l.fn.before }))

abbrev pub decreases-loop-edge : goal.decreases-loop-edge
decreases-loop-edge l = l.end - l.edge.passed
