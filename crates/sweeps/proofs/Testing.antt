-- The edges at some positions, tested one after the other.
use Rattle.std.specs.Prelude.{◌≡◌, refl, Bool, true, cond, List, [], ◌∷◌, ◌++◌, filter, ℕ, ◌+◌, ◌≤◌, ◌<◌, length, take}
use Rattle.std.proofs.Common.{sym, ◌∙◌, ap, subst, arith, add-one, length-append}
use Rattle.std.proofs.lemmas.List.{length-take}
use Rattle.std.proofs.Math.Seq.{take-suc, take-length, length-take-le}
use Rattle.algebra.specs.Counting.{one, count_p, count_snoc, count_le, count_length}
use Rattle.index_edge.specs.Edge.{Edge}
use Rattle.polygon.specs.Ring.{at}
use Rattle.polygon.specs.Edges.{edge_at}
use Rattle.box_tree.specs.Within.{Appended}
use Rattle.sweeps.specs.Query.{Kept}
use Rattle.sweeps.specs.declared.query.Contacts.{Contacts}
use Rattle.sweeps.proofs.Filters.{filter_turn, filter_few}

module _ {p q : Edge → Bool} {n : ℕ} {r a : List ℕ} (l : List ℕ) where
  pub kept_none : Kept p q n r (take 0 l) a a (record { count = 0; tested = 0 })
  kept_none = record { size = refl; list = refl; count = refl; tested = refl }

  -- those before the i-th were tested
  module _ (i : ℕ) {b : List ℕ} {c : Contacts} (kept : Kept p q n r (take i l) a b c) where
    -- there is room for one more
    pub kept_room : i < length l → length l ≤ length a → c.count < length b
    kept_room h room = omega (arith, kept.count, kept.size, filter_few (λ j. p (edge_at n r j)) (take i l), length-take-le i l (omega arith))

    -- one more
    pub kept_next : {d : List ℕ} {s u : Bool} {k t : ℕ} → i < length l → s ≡ p (edge_at n r (at l i)) → u ≡ q (edge_at n r (at l i))
        → Appended b c.count d k (cond s (at l i ∷ []) []) → t ≡ c.tested + one u → Kept p q n r (take (i + 1) l) a d (record { count = k; tested = t })
    kept_next {s = s} {u} h es eu w et =
        let pass = λ (j : ℕ). p (edge_at n r j) in
        let count = λ (j : ℕ). q (edge_at n r j) in
        let before = filter pass (take i l) in
        let this = λ (t : Bool). cond t (at l i ∷ []) [] in
        let now = ap (λ t. before ++ this t) es ∙ sym (filter_turn pass l i h) in
        record {
          size = w.size ∙ kept.size;
          list = w.list ∙ ap (λ m. m ++ this s) kept.list ∙ now;
          count = w.count ∙ ap (λ m. m + length (this s)) kept.count ∙ sym (length-append before (this s)) ∙ ap length now;
          tested =
              et ∙ ap (λ m. m + one u) kept.tested ∙ ap (λ (t : Bool). count_p count (take i l) + one t) eu
              ∙ sym (count_snoc count (take i l) (at l i))
              ∙ ap (count_p count) (sym (take-suc l i 0 h) ∙ ap (λ m. take m l) (sym (add-one i)));
        }

    -- no more are tested than there were
    pub kept_tested : c.tested ≤ i
    kept_tested =
        omega (arith, kept.tested, count_le (λ j. q (edge_at n r j)) (λ j. true) (λ j h. refl) (take i l), count_length (take i l), length-take i l)

    pub kept_all : i ≡ length l → Kept p q n r l a b c
    kept_all e = subst (λ m. Kept p q n r m a b c) (ap (λ m. take m l) e ∙ take-length l) kept
