-- The buffers hold a store.
use Rattle.std.specs.Prelude.{◌≡◌, true, false, List, [], ◌∷◌, map, ℕ, suc, ◌+◌, ◌-◌, ◌*◌, ◌≤◌, ◌<◌, length, get_or, take}
use Rattle.index_edge.specs.Edge.{Edge, eq_edge, lt_edge}
use Rattle.intersection_set.specs.Store.{Rec, Store, no_rec, grown}
use Rattle.intersection_set.specs.Numbered.{Numbered}
use Rattle.intersection_set.specs.Lists.{slot_of, head_place, head_of, next_of, prev_of, reverse_of, stack_of, heads_of, tangle, tangles_of}
use Rattle.intersection_set.specs.Pool.{no_ends, Pair, Links, Pool, Buffers, edges_of, links_of, end0, end1, tangle_at}
use Rattle.intersection_set.specs.Within.{Proper, Sized}

-- a property of each record
abbrev pub Each : (Rec → Type 0) → List Rec → Type 0
Each Q d = (j : ℕ) → j < length d → Q (get_or d j no_rec)

-- a record of n points: two edges, the smaller first
pub record Sound (n : ℕ) (r : Rec) : Type 0 where
  pub first : Proper n r.e0
  pub second : Proper n r.e1
  pub ordered : lt_edge r.e0 r.e1 ≡ true

-- its edges stand at its slot
abbrev pub HeldIn : List Pair → Rec → Type 0
HeldIn v r = (end0 v r.slot ≡ r.e0) × (end1 v r.slot ≡ r.e1)

-- so does its age
abbrev pub AgedIn : List ℕ → Rec → Type 0
AgedIn a r = get_or a r.slot 0 ≡ r.age

-- and so do its links along both edges' lists
pub record LinkedIn (l : Links) (s : Store) (r : Rec) : Type 0 where
  pub next0 : (get_or l.next r.slot no_ends).x0 ≡ next_of r.e0 r.slot s
  pub prev0 : (get_or l.prev r.slot no_ends).x0 ≡ prev_of r.e0 r.slot s
  pub next1 : (get_or l.next r.slot no_ends).x1 ≡ next_of r.e1 r.slot s
  pub prev1 : (get_or l.prev r.slot no_ends).x1 ≡ prev_of r.e1 r.slot s

-- the dense order and its reverse
abbrev pub InOrder : List ℕ → List Rec → Type 0
InOrder D d = (j : ℕ) → j < length d → get_or D j 0 ≡ (get_or d j no_rec).slot

abbrev pub Reverse : List Rec → List ℕ → Type 0
Reverse d v = (j : ℕ) → j < length d → get_or v (get_or d j no_rec).slot 0 ≡ j

-- the free slots, the one freed last at the end
abbrev pub Stack : List ℕ → List ℕ → Type 0
Stack q [] = Unit {0}
Stack q (a ∷ l) = (get_or q (length l) 0 ≡ a) × Stack q l

-- the pairs of numbers that have a place among the n×(n-1) heads
abbrev pub Placed : ℕ → Edge → Type 0
Placed n e = (e.hi < n) × (suc e.lo < n)

-- the pool p of n points holds the records of s with their ages, their order and the free slots, counts the pushes, and the records that name each edge
pub record Stored (n : ℕ) (p : Pool) (s : Store) : Type 0 where
  pub small : n ≤ 256
  pub sizes : Sized n p
  pub numbered : Numbered s
  pub room : grown s ≤ n * (n - 1)
  pub sound : Each (Sound n) s.dense
  pub live : p.counts.live ≡ length s.dense
  pub freed : p.counts.freed ≡ length s.free
  pub grew : p.counts.grown ≡ grown s
  pub order : InOrder p.order.dense s.dense
  pub reverse : Reverse s.dense p.order.reverse
  pub frees : Stack p.free s.free
  pub held : Each (HeldIn p.edges) s.dense
  pub pushed : p.counts.pushes ≡ s.pushes
  pub aged : Each (AgedIn p.ages) s.dense
  pub tangled : (e : Edge) → Placed n e → tangle_at n e p.tangles ≡ tangle e s

-- and every list: heads in full, and each live record's links
pub record Holds (n : ℕ) (p : Pool) (s : Store) : Type 0 where
  pub stored : Stored n p s
  pub heads : (e : Edge) → Placed n e → get_or p.links.heads (head_place n e) 0 ≡ head_of e s
  pub linked : Each (LinkedIn p.links s) s.dense

-- What a reader of the buffers sees of a store, by equations: heads and tangles in full, and of the others the live entries.
pub record Shows (n : ℕ) (b : Buffers) (s : Store) : Type 0 where
  pub heads : b.heads ≡ heads_of n s
  pub dense : take (length s.dense) b.dense ≡ map slot_of s.dense
  pub reverse : Each (λ r. get_or b.reverse r.slot 0 ≡ reverse_of r.slot s) s.dense
  pub free : take (length s.free) b.free ≡ stack_of s.free
  pub edges : Each (HeldIn (edges_of b.ends)) s.dense
  pub linked : Each (LinkedIn (links_of b.heads b.links) s) s.dense
  pub ages : Each (AgedIn b.ages) s.dense
  pub tangles : b.tangles ≡ tangles_of n s

-- what a push of a and b asks of the store
pub record MayPush (n : ℕ) (a b : Edge) (s : Store) : Type 0 where
  pub first : Proper n a
  pub second : Proper n b
  pub differ : eq_edge a b ≡ false
  pub room : length s.dense < n * (n - 1)
  pub young : s.pushes + 1 < 4294967296
