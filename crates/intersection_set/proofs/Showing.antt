-- Buffers that hold a store show it, by equations.
use mathlib.Core.Path.{◌≡◌, refl, sym, ap, ◌∙◌}
use mathlib.Core.Logic.{◌≢◌}
use mathlib.Core.Bool.{Bool, true, false, ◌&&◌, cond}
use mathlib.Core.List.{List, [], ◌∷◌, ◌++◌, map}
use Prim.Native.Nat.{ℕ, zero, suc, ◌+◌, ◌-◌, ◌*◌, ◌/◌, ◌%◌, ◌≤◌, ◌<◌}
use native.Mathlib.Omega.{arith}
use native.Mathlib.Nat.{mod-lt, div-add-mod', div-lt_iff_lt-mul, mul_comm}
use borrow.Author.Tests.{ltb-false, lt-ltb, eq-eqb, ne_eqb}
use lib.Dec.{ltb}
use lib.ListN.{length, get_or, take, replicate, length-map, get_or-map}
use lib.Seq.{get_or-take, length-take-le, take-suc, ext_get_or}
use Rattle.algebra.specs.Cases.{both, true_or_false, and_left}
use Rattle.algebra.specs.Counting.{count_length, count_le}
use Rattle.algebra.specs.Ranges.{up_from, up_from_length, table_at}
use Rattle.index_edge.specs.Edge.{Edge}
use Rattle.intersection_set.specs.Store.{Rec, Store, no_rec, names}
use Rattle.intersection_set.specs.Lists.{none, slot_of, list_of, first_or, head_of, place_from, reverse_of, stack_of, head_place, pair_at, heads_of, tangle, tangles_of}
use Rattle.intersection_set.specs.Pool.{Pool, Buffers, pool_of}
use Rattle.intersection_set.specs.Holds.{Each, Stack, Placed, Holds, Shows}
use Rattle.intersection_set.specs.declared.utils.Counts.{Counts}
use Rattle.intersection_set.specs.Within.{Proper}
use Rattle.intersection_set.proofs.Slots.{slots_differ}
use Rattle.intersection_set.proofs.HeadPlaces.{placed, head_below, head_apart}
use Rattle.intersection_set.proofs.ByAge.{list_of_count}
use Rattle.intersection_set.proofs.Tangles.{none_names}

-- ---- heads and counts in full
-- what is at a place below n×(n-1) belongs to the pair of its quotient and remainder
module _ (n i : ℕ) (h : i < n * (n - 1)) where
  some : 0 < n
  some = go n h
    where
      go : (n : ℕ) → i < n * (n - 1) → 0 < n
      go zero h = absurd (omega arith)
      go (suc n) h = omega arith

  pair_placed : Placed n (pair_at n i)
  pair_placed = (mod-lt i some, omega (arith, (div-lt_iff_lt-mul {k = n} {x = i} {y = n - 1} some).1 (omega (arith, h, mul_comm n (n - 1)))))

  pair_place : head_place n (pair_at n i) ≡ i
  pair_place = omega (arith, div-add-mod' i n, mul_comm n (i / n))

-- A buffer that has at each pair's place what v says of the pair, and of one that is no edge d, is the table of both.
module _ (n : ℕ) (l : List ℕ) (v : Edge → ℕ) (d : ℕ) (size : length l ≡ n * (n - 1)) (read : (e : Edge) → Placed n e → get_or l (head_place n e) 0 ≡ v e)
    (no_edge : (e : Edge) → (e.lo < e.hi → ⊥) → v e ≡ d) where
  pub by_place : l ≡ map (λ i. cond (ltb (i / n) (i % n)) (v (pair_at n i)) d) (up_from 0 (n * (n - 1)))
  by_place =
      let m : ℕ = n * (n - 1) in
      let f : ℕ → ℕ = λ i. cond (ltb (i / n) (i % n)) (v (pair_at n i)) d in
      ext_get_or 0 l (map f (up_from 0 m)) (size ∙ sym (length-map (up_from 0 m) f ∙ up_from_length 0 m))
      (λ i u.
      let w : i < m = omega (arith, u, size) in
      let o : 0 + i ≡ i = omega arith in
      at_place i w ∙ sym (table_at f 0 0 m i w ∙ ap f o))
    where
      there : (i : ℕ) → i < n * (n - 1) → get_or l i 0 ≡ v (pair_at n i)
      there i w = ap (λ (k : ℕ). get_or l k 0) (sym (pair_place n i w)) ∙ read (pair_at n i) (pair_placed n i w)

      at_place : (i : ℕ) → i < n * (n - 1) → get_or l i 0 ≡ cond (ltb (i / n) (i % n)) (v (pair_at n i)) d
      at_place i w =
          both (true_or_false (ltb (i / n) (i % n)))
          (λ u. rw u (there i w))
          (λ u. rw u (there i w ∙ no_edge (pair_at n i) (λ z. omega (arith, z, ltb-false (i / n) (i % n) u))))

-- a pair that no record names has an empty list
none_heads : (s : Store) (e : Edge) → tangle e s ≡ 0 → head_of e s ≡ none
none_heads s e h = go (list_of e s.dense) (omega (arith, count_length (list_of e s.dense), list_of_count e (λ _. true) s.dense, h, count_le (λ r. names e r && true) (names e) (λ r. and_left (names e r) true) s.dense))
  where
    go : (l : List Rec) → length l ≡ 0 → first_or none (map slot_of l) ≡ none
    go [] h = refl
    go (r ∷ l) h = absurd (omega arith)

-- The table has an edge's count at the edge's place, and is all 0 where there is no record.
pub tangle_shown : (n : ℕ) (s : Store) (e : Edge) → Proper n e → get_or (tangles_of n s) (head_place n e) 0 ≡ tangle e s
tangle_shown n s e ok =
    let i : ℕ = head_place n e in
    let f : ℕ → ℕ = λ i. cond (ltb (i / n) (i % n)) (tangle (pair_at n i) s) 0 in
    let w : i < n * (n - 1) = head_below n e (placed ok) in
    let is : pair_at n i ≡ e = head_apart n (pair_at n i) e (pair_placed n i w) (placed ok) (pair_place n i w) in
    table_at f 0 0 (n * (n - 1)) i w ∙ ap f (omega arith) ∙ (λ t. cond (ltb (is t).lo (is t).hi) (tangle (is t) s) 0) ∙ rw (lt-ltb e.lo e.hi ok.up) refl

pub none_tangled : (n : ℕ) (s : Store) → s.dense ≡ [] → tangles_of n s ≡ replicate (n * (n - 1)) 0
none_tangled n s none = rw none (zeros 0 (n * (n - 1)))
  where
    zero_at : (b : Bool) → cond {A = ℕ} b 0 0 ≡ 0
    zero_at true = refl
    zero_at false = refl

    zeros : (i k : ℕ) → map (λ i. cond {A = ℕ} (ltb (i / n) (i % n)) 0 0) (up_from i k) ≡ replicate k 0
    zeros i zero = refl
    zeros i (suc k) = λ t. zero_at (ltb (i / n) (i % n)) t ∷ zeros (suc i) k t

module _ (n : ℕ) (p : Pool) (s : Store) (h : Holds n p s) where
  pub heads_are : p.links.heads ≡ heads_of n s
  heads_are =
      by_place n p.links.heads (λ e. head_of e s) none h.stored.sizes.in_heads h.heads (λ e off. none_heads s e (none_names n s e h.stored.sound off))

  pub tangles_are : p.tangles ≡ tangles_of n s
  tangles_are =
      by_place n p.tangles (λ e. tangle e s) 0 h.stored.sizes.in_tangles h.stored.tangled (λ e off. none_names n s e h.stored.sound off)

  -- ---- the dense order, and its reverse
  pub dense_is : take (length s.dense) p.order.dense ≡ map slot_of s.dense
  dense_is =
      let few : length s.dense ≤ length p.order.dense = omega (arith, h.stored.room, h.stored.sizes.in_dense) in
      let z : length (take (length s.dense) p.order.dense) ≡ length s.dense = length-take-le (length s.dense) p.order.dense few in
      ext_get_or 0 (take (length s.dense) p.order.dense) (map slot_of s.dense) (z ∙ sym (length-map s.dense slot_of))
      (λ i u. let w : i < length s.dense = omega arith in get_or-take (length s.dense) p.order.dense i 0 w ∙ h.stored.order i w ∙ sym (get_or-map slot_of s.dense i no_rec))

-- the place of the first record with a slot
pub place_is : (d : List Rec) (i j x : ℕ) → j < length d → (get_or d j no_rec).slot ≡ x → ((k : ℕ) → k < j → (get_or d k no_rec).slot ≢ x) → place_from i x d ≡ i + j
place_is [] i j x h q f = absurd (omega arith)
place_is (r ∷ d) i zero x h q f = rw (eq-eqb x r.slot (sym q)) (omega arith)
place_is (r ∷ d) i (suc j) x h q f =
    rw (ne_eqb x r.slot (λ u. f 0 (omega arith) (sym u))) (place_is d (suc i) j x (omega arith) q (λ k u. f (suc k) (omega arith)) ∙ omega arith)

module _ (n : ℕ) (p : Pool) (s : Store) (h : Holds n p s) where
  pub reverse_is : Each (λ r. get_or p.order.reverse r.slot 0 ≡ reverse_of r.slot s) s.dense
  reverse_is j i =
      h.stored.reverse j i ∙ sym (place_is s.dense 0 j (get_or s.dense j no_rec).slot i refl (λ k u. slots_differ s h.stored.numbered k j u i) ∙ omega arith)

-- ---- the free slots
stack_is : (q l : List ℕ) → length l ≤ length q → Stack q l → take (length l) q ≡ stack_of l
stack_is q [] h k = refl
stack_is q (a ∷ l) h k =
    take-suc q (length l) 0 (omega arith) ∙ (λ i. stack_is q l (omega arith) k.1 i ++ (k.0 i ∷ []))

module _ (n : ℕ) (p : Pool) (s : Store) (h : Holds n p s) where
  pub free_is : take (length s.free) p.free ≡ stack_of s.free
  free_is = stack_is p.free s.free (omega (arith, h.stored.room, h.stored.sizes.in_free)) h.stored.frees

pub shows : (n : ℕ) (b : Buffers) (c : Counts) (s : Store) → Holds n (pool_of b c) s → Shows n b s
shows n b c s h =
    let p : Pool = pool_of b c in
    record { heads = heads_are n p s h; dense = dense_is n p s h; reverse = reverse_is n p s h; free = free_is n p s h; edges = h.stored.held; linked = h.linked; ages = h.stored.aged; tangles = tangles_are n p s h }
