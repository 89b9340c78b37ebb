-- `first_fault` is the first position at fault, and what a pass over the ring knows on its way.
use Rattle.std.proofs.lemmas.Grind.{elements}
use mathlib.Core.Path.{◌≡◌, refl, sym, ◌∙◌}
use mathlib.Core.Bool.{Bool, true, false}
use mathlib.Core.List.{List, [], ◌∷◌}
use mathlib.Core.Logic.{inl, inr, ◌↔◌}
use mathlib.Core.Option.{Option, none, some}
use Prim.Native.Nat.{ℕ, zero, suc, ◌+◌, ◌≤◌, ◌<◌}
use native.Mathlib.Omega.{arith}
use lib.Dec.{eqb, leb}
use lib.ListN.{length, get_or, set, replicate}
use borrow.Author.Tests.{le-leb, eq-eqb}
use Rattle.algebra.specs.Cases.{both, never, or_cases, or_right}
use Rattle.algebra.specs.Ranges.{some_true, true_some, IsLeast, least_is}
use Rattle.polygon.specs.Ring.{at, AtFault, at_fault, FirstFault, first_fault}

-- no entries; a ring; a number of n; a point named again; both, of which the first counts, in either order; the last entry like the first
rows :
    (first_fault 0 [] ≡ none) × (first_fault 4 (0 ∷ 2 ∷ 1 ∷ 3 ∷ []) ≡ none)
    × (first_fault 4 (0 ∷ 4 ∷ 1 ∷ 3 ∷ []) ≡ some 1) × (first_fault 4 (0 ∷ 2 ∷ 2 ∷ 3 ∷ []) ≡ some 2)
    × (first_fault 4 (1 ∷ 1 ∷ 4 ∷ 4 ∷ []) ≡ some 1) × (first_fault 4 (4 ∷ 1 ∷ 1 ∷ 3 ∷ []) ≡ some 0)
    × (first_fault 4 (3 ∷ 2 ∷ 1 ∷ 3 ∷ []) ≡ some 3)
rows = (refl, refl, refl, refl, refl, refl, refl)

module _ (n : ℕ) (r : List ℕ) where
  -- ---- the test decides
  fault_told : (i : ℕ) → at_fault n r i ≡ true → AtFault n r i
  fault_told i h = grind (arith, or_cases, some_true)

  told_fault : (i : ℕ) → AtFault n r i → at_fault n r i ≡ true
  told_fault i f =
      both f
      (λ g. rw (le-leb n (at r i) g) refl)
      (λ g. let (j, l, e) = g in or_right (leb n (at r i)) _ (true_some i (λ j. eqb (at r j) (at r i)) j l (eq-eqb (at r j) (at r i) e)))

  pub fault_decides : (i : ℕ) → (at_fault n r i ≡ true) ↔ AtFault n r i
  fault_decides i = (fault_told i, told_fault i)

  -- ---- the position
  in_words : (o : Option ℕ) → IsLeast 0 n (at_fault n r) o → FirstFault n r o
  in_words none h = grind (arith, told_fault)
  in_words (some i) (a, l, e, h) = grind (arith, fault_told, told_fault)

  pub first_is : FirstFault n r (first_fault n r)
  first_is = in_words (first_fault n r) (least_is 0 n (at_fault n r))

  -- there is one first fault only
  one_first : (o p : Option ℕ) → FirstFault n r o → FirstFault n r p → o ≡ p
  one_first none none f g = refl
  one_first none (some j) f (l, e, h) = absurd (f j l e)
  one_first (some i) none (l, e, h) g = absurd (g i l e)
  one_first (some i) (some j) (l, e, h) (m, d, k) = grind arith

  pub first_only : (o : Option ℕ) → FirstFault n r o → o ≡ first_fault n r
  first_only o f = one_first o (first_fault n r) f first_is

  -- ---- a pass over the ring
  -- No entry before position i is at fault, and marked are the numbers that stand there.
  pub record Passed (seen : List Bool) (i : ℕ) : Type 0 where
    pub size : length seen ≡ 256
    pub right : (j : ℕ) → j < i → ¬ AtFault n r j
    pub stands : (v : ℕ) → get_or seen v false ≡ true → (j : ℕ) × (j < i) × (at r j ≡ v)
    pub marked : (j : ℕ) → j < i → get_or seen (at r j) false ≡ true

  pub passed_none : Passed (replicate 256 false) 0
  passed_none = record { size = refl; right = λ j l. absurd (omega (arith, l)); stands = λ v h. never false (sym (no_mark 256 v) ∙ h) refl; marked = λ j l. absurd (omega (arith, l)) }
    where
      no_mark : (k v : ℕ) → get_or (replicate k false) v false ≡ false
      no_mark zero v = refl
      no_mark (suc k) zero = refl
      no_mark (suc k) (suc v) = no_mark k v

  module _ {seen : List Bool} {i : ℕ} (p : Passed seen i) where
    pub passed_all : n ≤ i → none ≡ first_fault n r
    passed_all h = first_only none (λ j l. p.right j (omega (arith, h, l)))

    module _ (l : i < n) where
      pub too_large : n ≤ at r i → some i ≡ first_fault n r
      too_large h = first_only (some i) (l, inl h, p.right)

      pub seen_before : get_or seen (at r i) false ≡ true → some i ≡ first_fault n r
      seen_before h = first_only (some i) (l, inr (p.stands (at r i) h), p.right)

    pub passed_more : at r i < n → n ≤ 256 → get_or seen (at r i) false ≡ false → Passed (set seen (at r i) true) (i + 1)
    passed_more h s u = grind (arith, elements)

-- what the check of the pass needs
pub ruleset pass_steps = (passed_more, passed_all, too_large, seen_before)
