-- `above` meets its contract. The invariant: `rest` is v divided by the square of x; while some is left that square is at most v, so x is below 2³².
use Prim.Native.Nat.{◌+◌, ◌*◌, ◌≤◌, ◌<◌}
use Rattle.integer_root.proofs.above.Given as goal

abbrev pub invariant-loop-rest : goal.invariant-loop-rest
invariant-loop-rest l = (1 ≤ l.x) × (l.x ≤ 8589934592) × (l.rest * (l.x * l.x) ≤ l.v) × (l.v < (l.rest + 1) * (l.x * l.x))

abbrev pub decreases-loop-rest : goal.decreases-loop-rest
decreases-loop-rest l = l.rest
