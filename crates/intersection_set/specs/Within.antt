-- What the steps of the pool ask of the buffers, so that no index leaves them.
use Rattle.std.specs.Prelude.{◌≡◌, ◌≢◌, false, List, ℕ, ◌+◌, ◌-◌, ◌*◌, ◌<◌, ◌≤◌, length, get_or}
use Rattle.index_edge.specs.Edge.{Edge, eq_edge}
use Rattle.intersection_set.specs.Lists.{none, head_place}
use Rattle.intersection_set.specs.Pool.{Ends, no_ends, Pair, Links, Order, Pool, Buffers, end0, end1, head_at, tangle_at, pool_remove}
use Rattle.intersection_set.specs.declared.utils.Counts.{Counts}

-- an edge between two of n points
pub record Proper (n : ℕ) (e : Edge) : Type 0 where
  pub up : e.lo < e.hi
  pub top : e.hi < n

-- ---- slots
pub record TakeOk (c : Counts) (free : List ℕ) : Type 0 where
  pub few : c.freed ≤ length free
  pub small : c.grown < 65535
  pub lived : c.live < 65535

pub record AppendOk (s live : ℕ) (o : Order) : Type 0 where
  pub fits : live < 65536
  pub in_dense : live < length o.dense
  pub in_reverse : s < length o.reverse

pub record DropOk (s live : ℕ) (o : Order) : Type 0 where
  pub some : 0 < live
  pub within : s < length o.reverse
  pub few : live ≤ length o.dense
  pub spot : get_or o.reverse s 0 < length o.dense
  pub last : get_or o.dense (live - 1) 0 < length o.reverse

-- ---- links
-- a slot, if it is one, is inside both lists
pub record EndOk (s : ℕ) (w : List Pair) (x : List Ends) : Type 0 where
  pub in_edges : s ≢ none → s < length w
  pub in_ends : s ≢ none → s < length x

pub record HeadOk (n : ℕ) (e : Edge) (heads : List ℕ) : Type 0 where
  pub small : n ≤ 256
  pub edge : Proper n e
  pub place : head_place n e < length heads

pub record UnlinkOk (n : ℕ) (e : Edge) (next prev : ℕ) (w : List Pair) (l : Links) : Type 0 where
  pub head : HeadOk n e l.heads
  pub first : EndOk prev w l.next
  pub second : EndOk next w l.prev

-- one record more can be counted for an edge, and one less
pub record RaiseOk (n : ℕ) (e : Edge) (tangles : List ℕ) : Type 0 where
  pub head : HeadOk n e tangles
  pub few : tangle_at n e tangles < 65535

pub record LowerOk (n : ℕ) (e : Edge) (tangles : List ℕ) : Type 0 where
  pub head : HeadOk n e tangles
  pub some : 0 < tangle_at n e tangles

-- the same for two edges, one after the other
pub record RaiseBoth (n : ℕ) (e f : Edge) (tangles : List ℕ) : Type 0 where
  pub first : RaiseOk n e tangles
  pub second : RaiseOk n f tangles
  pub apart : eq_edge e f ≡ false

pub record LowerBoth (n : ℕ) (e f : Edge) (tangles : List ℕ) : Type 0 where
  pub first : LowerOk n e tangles
  pub second : LowerOk n f tangles
  pub apart : eq_edge e f ≡ false

-- ---- the whole pool
-- the lists of a pool of n points have n×(n-1) entries each
pub record Sized (n : ℕ) (p : Pool) : Type 0 where
  pub in_heads : length p.links.heads ≡ n * (n - 1)
  pub in_next : length p.links.next ≡ n * (n - 1)
  pub in_prev : length p.links.prev ≡ n * (n - 1)
  pub in_edges : length p.edges ≡ n * (n - 1)
  pub in_ages : length p.ages ≡ n * (n - 1)
  pub in_dense : length p.order.dense ≡ n * (n - 1)
  pub in_reverse : length p.order.reverse ≡ n * (n - 1)
  pub in_free : length p.free ≡ n * (n - 1)
  pub in_tangles : length p.tangles ≡ n * (n - 1)

-- what is lent of the buffers: n×(n-1) entries of each
pub record Room (n : ℕ) (b : Buffers) : Type 0 where
  pub in_heads : length b.heads ≡ n * (n - 1)
  pub in_ends : length b.ends ≡ n * (n - 1)
  pub in_links : length b.links ≡ n * (n - 1)
  pub in_ages : length b.ages ≡ n * (n - 1)
  pub in_dense : length b.dense ≡ n * (n - 1)
  pub in_reverse : length b.reverse ≡ n * (n - 1)
  pub in_free : length b.free ≡ n * (n - 1)
  pub in_tangles : length b.tangles ≡ n * (n - 1)

-- what a pool of n points keeps, as far as its indices go
pub record Good (n : ℕ) (p : Pool) : Type 0 where
  pub small : n ≤ 256
  pub sizes : Sized n p
  pub split : p.counts.live + p.counts.freed ≡ p.counts.grown
  pub bound : p.counts.grown ≤ n * (n - 1)
  pub frees : (k : ℕ) → k < p.counts.freed → get_or p.free k 0 < n * (n - 1)
  pub head : (e : Edge) → Proper n e → head_at n e p.links.heads ≢ none → head_at n e p.links.heads < n * (n - 1)

pub record PushOk (n : ℕ) (e0 e1 : Edge) (p : Pool) : Type 0 where
  pub good : Good n p
  pub edge0 : Proper n e0
  pub edge1 : Proper n e1
  pub differ : eq_edge e0 e1 ≡ false
  pub room : p.counts.live < n * (n - 1)
  pub young : p.counts.pushes + 1 < 4294967296
  pub raises : RaiseBoth n e0 e1 p.tangles

pub record RemoveOk (n s : ℕ) (p : Pool) : Type 0 where
  pub in_edges : s < length p.edges
  pub in_next : s < length p.links.next
  pub in_free : p.counts.freed < length p.free
  pub drops : DropOk s p.counts.live p.order
  pub unlink0 : UnlinkOk n (end0 p.edges s) (get_or p.links.next s no_ends).x0 (get_or p.links.prev s no_ends).x0 p.edges p.links
  pub unlink1 : UnlinkOk n (end1 p.edges s) (get_or p.links.next s no_ends).x1 (get_or p.links.prev s no_ends).x1 p.edges p.links
  pub lowers : LowerBoth n (end0 p.edges s) (end1 p.edges s) p.tangles

-- the records of e can be removed, newest first, until there is none
pub data Drained (n : ℕ) (e : Edge) : Pool → Type 0 where
  empty : {p : Pool} → head_at n e p.links.heads ≡ none → Drained n e p
  some : {p : Pool} → head_at n e p.links.heads ≢ none → RemoveOk n (head_at n e p.links.heads) p → Drained n e (pool_remove n (head_at n e p.links.heads) p) → Drained n e p
