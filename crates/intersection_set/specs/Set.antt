-- The set of the code: what its buffers say, and what a call leaves as it was.
use Rattle.std.specs.Prelude.{◌≡◌, length, replicate}
use Rattle.intersection_set.specs.Lists.{none}
use Rattle.intersection_set.specs.Pool.{Order, order, Pool, Buffers, lent, pool_of}
use Rattle.intersection_set.specs.declared.intersection_set.IndexIntersectionSet.{IndexIntersectionSet}

abbrev pub order_in : IndexIntersectionSet → Order
order_in s = order s.dense.now s.reverse.now

abbrev pub buffers_in : IndexIntersectionSet → Buffers
buffers_in s = lent s.heads.now s.ends.now s.links.now s.ages.now s.dense.now s.reverse.now s.free.now s.tangles.now

abbrev pub pool_in : IndexIntersectionSet → Pool
pool_in s = pool_of (buffers_in s) s.counts

-- The buffers are those that were lent, for as many points.
pub record SameBuffers (a b : IndexIntersectionSet) : Type 0 where
  pub vertices : b.vertices ≡ a.vertices
  pub heads : b.heads.ghost_name ≡ a.heads.ghost_name
  pub ends : b.ends.ghost_name ≡ a.ends.ghost_name
  pub links : b.links.ghost_name ≡ a.links.ghost_name
  pub ages : b.ages.ghost_name ≡ a.ages.ghost_name
  pub dense : b.dense.ghost_name ≡ a.dense.ghost_name
  pub reverse : b.reverse.ghost_name ≡ a.reverse.ghost_name
  pub free : b.free.ghost_name ≡ a.free.ghost_name
  pub tangles : b.tangles.ghost_name ≡ a.tangles.ghost_name

-- The records, the edges' lists and counts and the ages are as they were.
pub record SameLists (a b : IndexIntersectionSet) : Type 0 where
  pub heads : b.heads.now ≡ a.heads.now
  pub ends : b.ends.now ≡ a.ends.now
  pub links : b.links.now ≡ a.links.now
  pub ages : b.ages.now ≡ a.ages.now
  pub tangles : b.tangles.now ≡ a.tangles.now

-- every head is none and every count 0, the rest as it was
abbrev pub cleared : Buffers → Buffers
cleared b = record b { heads = replicate (length b.heads) none; tangles = replicate (length b.tangles) 0 }
