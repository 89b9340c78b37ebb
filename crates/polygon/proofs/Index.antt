-- The position index: it is the only list that inverts the ring, a swap carries it along, and an edge is found by it.
use Rattle.std.proofs.lemmas.Grind.{elements}
use mathlib.Core.Path.{◌≡◌, sym, ◌∙◌, ap}
use mathlib.Core.Bool.{true, false, cond}
use mathlib.Core.List.{List, [], ◌∷◌}
use mathlib.Core.Logic.{◌≢◌}
use Prim.Native.Nat.{ℕ, zero, suc, ◌+◌, ◌≤◌, ◌<◌}
use native.Mathlib.Omega.{arith}
use lib.Dec.{eqb}
use lib.ListN.{length, set, length-map}
use lib.Seq.{ext_get_or}
use borrow.Author.Tests.{eq-eqb, ne_eqb}
use Rattle.index_edge.specs.declared.IndexEdge.{IndexEdge}
use Rattle.index_edge.specs.Number.{edge_of}
use Rattle.algebra.specs.Ranges.{up_from, up_from_length, table_at}
use Rattle.polygon.specs.Ring.{next, at, swap, place_of, index_of, IsRing, IsIndex, Indexed}
use Rattle.polygon.specs.Edges.{edge_at, direct}
use Rattle.polygon.specs.declared.position.Position.{Position}
use Rattle.polygon.specs.Place.{position}
use Rattle.algebra.specs.Cases.{le_cases}
use Rattle.polygon.proofs.Positions.{next_lt}
use Rattle.polygon.proofs.EachOnce.{ring_has}
use Rattle.polygon.proofs.RingEdges.{next_next}

-- ---- the points in their own order
pub list_at : (s n i : ℕ) → i < n → at (up_from s n) i ≡ s + i
list_at s zero i l = absurd (omega arith)
list_at s (suc n) zero l = omega arith
list_at s (suc n) (suc i) l = list_at (suc s) n i (omega arith) ∙ omega arith

pub first_ring : (n : ℕ) → IsRing n (up_from 0 n)
first_ring n = grind (arith, list_at, up_from_length)

-- a list of 0, 1, 2, ..
pub counted : (l : List ℕ) → ((k : ℕ) → k < length l → at l k ≡ k) → l ≡ up_from 0 (length l)
counted l h = ext_get_or 0 l (up_from 0 (length l)) (sym (up_from_length 0 (length l))) (λ k g. h k g ∙ sym (list_at 0 (length l) k g ∙ omega arith))

-- ---- the search for a point, and for an edge
place_at : (v : ℕ) (l : List ℕ) (s i : ℕ) → i < length l → at l i ≡ v → ((j : ℕ) → j < i → at l j ≢ v) → place_of v l s ≡ s + i
place_at v [] s i h e o = absurd (omega arith)
place_at v (a ∷ l) s zero h e o = rw (eq-eqb a v e) (omega arith)
place_at v (a ∷ l) s (suc i) h e o = rw (ne_eqb a v (o 0 (omega arith))) (place_at v l (suc s) i (omega arith) e (λ j k. o (suc j) (omega arith)) ∙ omega arith)

module _ (n : ℕ) (r : List ℕ) (ring : IsRing n r) where
  pub place_of_lem : (i : ℕ) → i < n → place_of (at r i) r 0 ≡ i
  place_of_lem i l = grind (arith, place_at)

  -- the edge at i is found at i
  pub direct_edge : 3 ≤ n → (i : ℕ) → i < n → direct n r (edge_at n r i) ≡ i
  direct_edge three i l = grind (arith, next_lt, place_of_lem, le_cases, next_next)

-- ---- the index of a ring is one, and the only one
module _ {n : ℕ} {r : List ℕ} (ring : IsRing n r) where
  pub index_at : (v : ℕ) → v < n → at (index_of n r) v ≡ place_of v r 0
  index_at v l = grind (arith, table_at)

  pub index_of_lem : IsIndex n r (index_of n r)
  index_of_lem = record {
    size = length-map (up_from 0 n) (λ v. place_of v r 0) ∙ up_from_length 0 n;
    finds = λ i l. index_at (at r i) (ring.below i l) ∙ place_of_lem n r ring i l;
  }

  pub indexed_of : {x : List ℕ} → x ≡ index_of n r → Indexed n r x
  indexed_of e = record { ring = ring; index = rw e index_of_lem }

module _ {n : ℕ} {r x : List ℕ} (k : Indexed n r x) where
  -- where a point stands
  pub index_place : (v : ℕ) → v < n → at x v ≡ place_of v r 0
  index_place v l =
      let (i, li, e) = ring_has k.ring v l in
      ap (at x) (sym e) ∙ k.index.finds i li ∙ sym (place_of_lem n r k.ring i li) ∙ ap (λ v. place_of v r 0) e

  pub indexed_is : x ≡ index_of n r
  indexed_is =
      let lx = k.index.size in
      ext_get_or 0 x (index_of n r) (lx ∙ sym (index_of_lem k.ring).size) (λ v l. index_place v (omega arith) ∙ sym (index_at k.ring v (omega arith)))

  pub index_is : {m : ℕ} → m ≡ n → x ≡ index_of m r
  index_is e = rw e indexed_is

  -- the index gives positions
  pub index_lt : {p : ℕ} (v : ℕ) → v < n → p ≡ at x v → p < n
  index_lt v l h = let (i, li, e) = ring_has k.ring v l in rw (h ∙ ap (at x) (sym e) ∙ k.index.finds i li) li

-- two points that change places on the ring, and whose places are written into the index
pub indexed_swap : {r x r' : List ℕ} {p q : ℕ} → Indexed (length r) r x → p < length r → q < length r → r' ≡ swap r p q → Indexed (length r') r' (set (set x (at r p) q) (at r q) p)
indexed_swap k lp lq er = grind (arith, elements)

-- ---- the points in their own order
pub first_indexed : (n : ℕ) → Indexed n (up_from 0 n) (up_from 0 n)
first_indexed n = grind (arith, first_ring, up_from_length, list_at, up_from)

-- ---- an edge's direction, read off the index: its points stand at a and b, and p is the place behind a
module _ {n : ℕ} {r x : List ℕ} (k : Indexed n r x) where
  pub place_lt : {q : Position} (v : ℕ) → v < n → q ≡ position n (at x v) → q.id.0 < q.size
  place_lt v l h = rw h (index_lt k v l (λ i. at x v))

  module _ (e : IndexEdge) (lo : e.min.0 < n) (hi : e.max.0 < n) {a b p : Position} (ea : a ≡ position n (at x e.min.0)) (eb : b ≡ position n (at x e.max.0)) (ep : p ≡ position a.size (next a.size a.id.0)) where
    direct_is : direct n r (edge_of e) ≡ cond (eqb p.id.0 b.id.0) (at x e.min.0) (at x e.max.0)
    direct_is = rw (ep, ea, eb) (rw (index_place k e.min.0 lo, index_place k e.max.0 hi))

    pub direct_first : eqb p.id.0 b.id.0 ≡ true → a.id.0 ≡ direct n r (edge_of e)
    direct_first t = rw ea (sym (direct_is ∙ ap (λ t. cond t (at x e.min.0) (at x e.max.0)) t))

    pub direct_second : eqb p.id.0 b.id.0 ≡ false → b.id.0 ≡ direct n r (edge_of e)
    direct_second t = rw eb (sym (direct_is ∙ ap (λ t. cond t (at x e.min.0) (at x e.max.0)) t))

-- what the check of `direct` needs
pub ruleset directing = (direct_first, direct_second)
