-- `count` meets its contract: after i turns the first i entries are 0, 1, .., i - 1.
use Rattle.std.proofs.Common.{◌≡◌, ℕ, ◌<◌}
use Rattle.polygon.specs.Ring.{at}
use Rattle.polygon.proofs.polygon.count.Given as goal

abbrev pub invariant-loop-i : goal.invariant-loop-i
invariant-loop-i l = (k : ℕ) → k < l.i → at l.list k ≡ k
