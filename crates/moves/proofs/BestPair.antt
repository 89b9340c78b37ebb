-- The search from kink to kink comes to the pair that the search from edge to edge finds.
use mathlib.Core.Path.{◌≡◌, refl, sym, ◌∙◌, ap}
use mathlib.Core.Bool.{true, false, ◌&&◌}
use mathlib.Core.List.{List, [], ◌∷◌, ◌++◌, append-nil, append_assoc}
use mathlib.Core.Logic.{◌⊎◌, inl, inr}
use Prim.Native.Nat.{ℕ, suc, ◌+◌, ◌≤◌, ◌<◌}
use native.Mathlib.Omega.{arith}
use lib.Dec.{ltb}
use lib.ListN.{length}
use borrow.Author.Tests.{lt-ltb, le-ltb}
use Rattle.algebra.specs.Cases.{both, true_or_false}
use Rattle.geometry.specs.Plane.{Point}
use Rattle.machine.specs.Board.{kink_at}
use Rattle.machine.specs.Search.{Mergable, none, merge, or_else, held_at, kink_in, first_kink, search_edges}
use Rattle.moves.specs.Best.{mergable_of, unfound, pair_of, better, with_kink, over_kinks}
use Rattle.moves.specs.declared.search.Best.{Best}
use Rattle.moves.specs.declared.search.Mergable.{Mergable as Pair}
use Rattle.std.specs.Prelude.{Option, Some, None}

-- ---- answers
or_else_assoc : (a b c : Mergable) → or_else a (or_else b c) ≡ or_else (or_else a b) c
or_else_assoc none b c = refl
or_else_assoc (merge k p) b c = refl

or_else_same : (a : Mergable) → or_else a a ≡ a
or_else_same none = refl
or_else_same (merge k p) = refl

or_else_none : (a : Mergable) → or_else a none ≡ a
or_else_none none = refl
or_else_none (merge k p) = refl

-- an answer as the code holds it
abbrev answer_of : Mergable → Option Pair
answer_of none = None
answer_of (merge k p) = Some (record { kink = record { 0 = k }; edge = record { 0 = p } })

answer_is : (a : Mergable) → mergable_of (answer_of a) ≡ a
answer_is none = refl
answer_is (merge k p) = refl

by_answer : (a : Mergable) → (a ≡ none) ⊎ ((k : ℕ) × (p : ℕ) × (a ≡ merge k p))
by_answer none = inl refl
by_answer (merge k p) = inr (k, p, refl)

-- how many edges come before one that holds a kink: none if the first of all does, else m
abbrev counted : Mergable → ℕ → ℕ
counted none m = m
counted (merge k p) m = 0

module _ (n : ℕ) (pt : ℕ → Point) (r : List ℕ) where
  -- ---- lists one after the other
  first_append : (p : ℕ) (l m : List ℕ) → first_kink n pt r p (l ++ m) ≡ or_else (first_kink n pt r p l) (first_kink n pt r p m)
  first_append p [] m = refl
  first_append p (k ∷ l) m = both (true_or_false (kink_in n pt r k p)) (λ t. rw t) (λ t. rw t (first_append p l m))

  search_append : (ks l m : List ℕ) → search_edges n pt r ks (l ++ m) ≡ or_else (search_edges n pt r ks l) (search_edges n pt r ks m)
  search_append ks [] m = refl
  search_append ks (p ∷ l) m = ap (or_else (first_kink n pt r p ks)) (search_append ks l m) ∙ or_else_assoc (first_kink n pt r p ks) (search_edges n pt r ks l) (search_edges n pt r ks m)

  pub kinks_append : (ps l m : List ℕ) (b : Best) → over_kinks n pt r ps (l ++ m) b ≡ over_kinks n pt r ps m (over_kinks n pt r ps l b)
  kinks_append ps [] m b = refl
  kinks_append ps (k ∷ l) m b = kinks_append ps l m (with_kink n pt r ps k b)

  -- ---- the edges that come before the best are all that count
  pub better_late : (k i : ℕ) (ps : List ℕ) (b : Best) → b.passed ≤ i → better n pt r k i ps b ≡ b
  better_late k i [] b h = refl
  better_late k i (p ∷ ps) b h = rw (le-ltb i b.passed h) (better_late k (suc i) ps b (omega arith))

  -- so none is better than a pair of the first edge
  pub kinks_late : (ps ks : List ℕ) (b : Best) → b.passed ≤ 0 → over_kinks n pt r ps ks b ≡ b
  kinks_late ps [] b h = refl
  kinks_late ps (k ∷ ks) b h = ap (over_kinks n pt r ps ks) stays ∙ kinks_late ps ks b h
    where
      stays : with_kink n pt r ps k b ≡ b
      stays = both (true_or_false (kink_at n pt r k)) (λ t. rw t (better_late k 0 ps b h)) (λ t. rw t)

  pub better_here : (k i p : ℕ) (ps : List ℕ) (b : Best) → i < b.passed → held_at n pt r k p ≡ true → better n pt r k i (p ∷ ps) b ≡ pair_of k i p
  better_here k i p ps b h e = rw (lt-ltb i b.passed h, e)

  pub better_on : (k i p : ℕ) (ps : List ℕ) (b : Best) → held_at n pt r k p ≡ false → better n pt r k i (p ∷ ps) b ≡ better n pt r k (suc i) ps b
  better_on k i p ps b e = both (true_or_false (ltb i b.passed)) (λ t. rw (t, e)) (λ t. rw t)

  pub better_append : (k i : ℕ) (l m : List ℕ) (b : Best) → better n pt r k i (l ++ m) b ≡ better n pt r k (i + length l) m (better n pt r k i l b)
  better_append k i [] m b = ap (λ j. better n pt r k j m b) (let z : i ≡ i + 0 = omega arith in z)
  better_append k i (p ∷ l) m b =
      both (true_or_false (ltb i b.passed && held_at n pt r k p))
      (λ t. rw t (sym (better_late k (i + suc (length l)) m (pair_of k i p) (omega arith))))
      (λ t. rw t (better_append k (suc i) l m b ∙ ap (λ j. better n pt r k j m (better n pt r k (suc i) l b)) (let z : suc i + length l ≡ i + suc (length l) = omega arith in z)))

  -- ---- the points ks have been searched
  -- how many of the edges come before the first that holds a kink of ks
  abbrev edges_before : List ℕ → List ℕ → ℕ
  edges_before ks [] = 0
  edges_before ks (p ∷ ps) = counted (first_kink n pt r p ks) (suc (edges_before ks ps))

  -- the best pair of them, where i edges come before ps
  abbrev best_of : ℕ → List ℕ → List ℕ → Best
  best_of i ks ps = record { passed = i + edges_before ks ps; found = answer_of (search_edges n pt r ks ps) }

  best_none : (ps : List ℕ) → best_of 0 [] ps ≡ unfound (length ps)
  best_none ps = λ t. record { passed = (let z : 0 + edges_before [] ps ≡ length ps = omega (arith, all ps) in z t); found = answer_of (nothing ps t) }
    where
      nothing : (ps : List ℕ) → search_edges n pt r [] ps ≡ none
      nothing [] = refl
      nothing (p ∷ ps) = nothing ps

      all : (ps : List ℕ) → edges_before [] ps ≡ length ps
      all [] = refl
      all (p ∷ ps) = ap suc (all ps)

  -- a point that is no kink changes nothing
  first_skips : (p k : ℕ) (ks : List ℕ) → kink_at n pt r k ≡ false → first_kink n pt r p ks ≡ first_kink n pt r p (ks ++ (k ∷ []))
  first_skips p k ks e = sym (first_append p ks (k ∷ []) ∙ rw e (or_else_none (first_kink n pt r p ks)))

  best_skips : (i k : ℕ) (ks ps : List ℕ) → kink_at n pt r k ≡ false → best_of i ks ps ≡ best_of i (ks ++ (k ∷ [])) ps
  best_skips i k ks ps e = λ t. record { passed = i + count ps t; found = answer_of (same ps t) }
    where
      same : (ps : List ℕ) → search_edges n pt r ks ps ≡ search_edges n pt r (ks ++ (k ∷ [])) ps
      same [] = refl
      same (p ∷ ps) = λ t. or_else (first_skips p k ks e t) (same ps t)

      count : (ps : List ℕ) → edges_before ks ps ≡ edges_before (ks ++ (k ∷ [])) ps
      count [] = refl
      count (p ∷ ps) = λ t. counted (first_skips p k ks e t) (suc (count ps t))

  -- the first edge's answer, if it has one, and what is found from the second on
  abbrev headed : ℕ → Mergable → ℕ → Mergable → Best
  headed i a rest found = record { passed = i + counted a (suc rest); found = answer_of (or_else a found) }

  best_headed : (i p : ℕ) (ks ps : List ℕ) (a : Mergable) → first_kink n pt r p ks ≡ a → best_of i ks (p ∷ ps) ≡ headed i a (edges_before ks ps) (search_edges n pt r ks ps)
  best_headed i p ks ps a e = ap (λ a. headed i a (edges_before ks ps) (search_edges n pt r ks ps)) e

  -- a kink makes the best pair with the first edge that holds it, if that is before the best
  best_takes : (i k : ℕ) (ks ps : List ℕ) → kink_at n pt r k ≡ true → better n pt r k i ps (best_of i ks ps) ≡ best_of i (ks ++ (k ∷ [])) ps
  best_takes i k ks [] t = refl
  best_takes i k ks (p ∷ ps) t =
      let rest = edges_before ks ps in
      let ahead = search_edges n pt r ks ps in
      let more = ks ++ (k ∷ []) in
      both (by_answer (first_kink n pt r p ks))
      (λ e. ap (better n pt r k i (p ∷ ps)) (best_headed i p ks ps none e)
      ∙ both (true_or_false (held_at n pt r k p))
      (λ h. better_here k i p ps (headed i none rest ahead) (omega arith) h
      ∙ (λ j. pair_of k (let z : i ≡ i + 0 = omega arith in z j) p)
      ∙ sym (best_headed i p more ps (merge k p) (first_append p ks (k ∷ []) ∙ rw (e, t, h))))
      (λ h. better_on k i p ps (headed i none rest ahead) h
      ∙ ap (λ m. better n pt r k (suc i) ps (record { passed = m; found = answer_of ahead })) (let z : i + suc rest ≡ suc i + rest = omega arith in z)
      ∙ best_takes (suc i) k ks ps t
      ∙ (λ j. record { passed = (let z : suc i + edges_before more ps ≡ i + suc (edges_before more ps) = omega arith in z j); found = answer_of (search_edges n pt r more ps) })
      ∙ sym (best_headed i p more ps none (first_append p ks (k ∷ []) ∙ rw (e, t, h)))))
      (λ e. ap (better n pt r k i (p ∷ ps)) (best_headed i p ks ps (merge e.0 e.1) e.2)
      ∙ better_late k i (p ∷ ps) (headed i (merge e.0 e.1) rest ahead) (omega arith)
      ∙ sym (best_headed i p more ps (merge e.0 e.1) (first_append p ks (k ∷ []) ∙ ap (λ a. or_else a (first_kink n pt r p (k ∷ []))) e.2)))

  best_next : (k : ℕ) (ks ps : List ℕ) → with_kink n pt r ps k (best_of 0 ks ps) ≡ best_of 0 (ks ++ (k ∷ [])) ps
  best_next k ks ps = both (true_or_false (kink_at n pt r k)) (λ t. rw t (best_takes 0 k ks ps t)) (λ t. rw t (best_skips 0 k ks ps t))

  best_along : (ks ls ps : List ℕ) → over_kinks n pt r ps ls (best_of 0 ks ps) ≡ best_of 0 (ks ++ ls) ps
  best_along ks [] ps = ap (λ l. best_of 0 l ps) (sym (append-nil ks))
  best_along ks (k ∷ ls) ps = ap (over_kinks n pt r ps ls) (best_next k ks ps) ∙ best_along (ks ++ (k ∷ [])) ls ps ∙ ap (λ l. best_of 0 l ps) (append_assoc ks (k ∷ []) ls)

  -- ---- all points searched, all edges passed at first
  pub best_found : (ks ps : List ℕ) {all : ℕ} {b : Best} → all ≡ length ps → b ≡ over_kinks n pt r ps ks (unfound all) → mergable_of b.found ≡ search_edges n pt r ks ps
  best_found ks ps e f =
      ap (λ (b : Best). mergable_of b.found) (f ∙ ap (λ m. over_kinks n pt r ps ks (unfound m)) e ∙ ap (over_kinks n pt r ps ks) (sym (best_none ps)) ∙ best_along [] ks ps)
      ∙ answer_is (search_edges n pt r ks ps)

  -- ---- twice the same run
  pub search_twice : (ks ps : List ℕ) → search_edges n pt r ks ps ≡ search_edges n pt r (ks ++ ks) (ps ++ ps)
  search_twice ks ps = kinks_twice ps ∙ sym (search_append (ks ++ ks) ps ps ∙ or_else_same (search_edges n pt r (ks ++ ks) ps))
    where
      kinks_twice : (ps : List ℕ) → search_edges n pt r ks ps ≡ search_edges n pt r (ks ++ ks) ps
      kinks_twice [] = refl
      kinks_twice (p ∷ ps) = λ t. or_else (sym (first_append p ks ks ∙ or_else_same (first_kink n pt r p ks)) t) (kinks_twice ps t)
