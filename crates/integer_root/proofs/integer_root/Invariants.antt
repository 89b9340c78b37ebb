-- `integer_root` meets its contract. The invariant: x is not below the root, so 0 is reached for 0 alone; a step that is no less than x tells that x is the root.
use Prim.Native.Nat.{◌+◌, ◌*◌, ◌≤◌, ◌<◌}
use Rattle.integer_root.proofs.integer_root.Given as goal

abbrev pub invariant-loop-x : goal.invariant-loop-x
invariant-loop-x l = (l.x ≤ 8589934592) × (l.v < (l.x + 1) * (l.x + 1))

abbrev pub decreases-loop-x : goal.decreases-loop-x
decreases-loop-x l = l.x
