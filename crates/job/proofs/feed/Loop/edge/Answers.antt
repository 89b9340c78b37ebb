-- Both points are within the limits, so the edge is short.
use Rattle.std.proofs.Common.{arith}
use Rattle.job.proofs.Feeds.{feed_by, feed_small}
use Rattle.job.proofs.feed.Loop.edge.Goals as goal

pub returns-clause-bound : goal.returns-clause-bound
returns-clause-bound c = omega (arith, feed_by _ _ c.squared_euclidean_distance.ensures c.integer_root.ensures, feed_small c.at-a.result.near c.at-b.result.near)
