-- The sum of the first i edges, each below 2,828,427,125.
use Rattle.std.proofs.Common.{◌≡◌, ◌*◌, ◌≤◌}
use Rattle.algebra.specs.Sums.{sum_to}
use Rattle.job.specs.Feed.{edge_feed}
use Rattle.job.specs.Loops.{spots}
use Rattle.job.proofs.feed.Loop.feed.Given as goal

abbrev pub invariant-loop-i : goal.invariant-loop-i
invariant-loop-i l = record { bound : l.sum ≤ 2828427124 * l.i; value : l.sum ≡ sum_to (edge_feed (spots l.self) l.self.ring.now) l.i }
