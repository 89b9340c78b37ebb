-- `swap_points` meets its contract: what changes places on the ring changes places in the index.
use Rattle.polygon.proofs.Index.{indexed_swap}
use Rattle.polygon.proofs.polygon.swap_points.Goals as goal

pub returns-clause-indexed : goal.returns-clause-indexed
returns-clause-indexed c = let (k, lp, lq) = c.requires in indexed_swap k lp lq (c.swap.ensures.by_index.3 0)
