-- A ring names each point once: every point stands somewhere on it, and the test `each_once`, that no entry is at fault, decides it.
use mathlib.Core.Path.{◌≡◌, refl, sym}
use mathlib.Core.Bool.{true, cond}
use mathlib.Core.List.{List}
use mathlib.Core.Logic.{◌⊎◌, ◌≢◌, ◌↔◌}
use mathlib.Core.Option.{Option, none, some}
use Prim.Native.Nat.{ℕ, zero, suc, ◌<◌}
use native.Mathlib.Omega.{arith}
use lib.Dec.{eqb}
use lib.ListN.{length}
use borrow.Author.Tests.{eq-eqb}
use Rattle.algebra.specs.Cases.{both, eq_cases, never, and_left, and_right}
use Rattle.polygon.specs.Ring.{at, IsRing, FirstFault, first_fault, is_none, each_once}
use Rattle.polygon.proofs.FirstFault.{first_is, first_only}

-- ---- n different numbers below n are all of them
-- f on the numbers below n, with f n for n, so that it stays below n
abbrev skip : ℕ → (ℕ → ℕ) → ℕ → ℕ
skip n f i = cond (eqb (f i) n) (f n) (f i)

module _ (n : ℕ) (f : ℕ → ℕ) (low : (i : ℕ) → i < suc n → f i < suc n) (inj : (i j : ℕ) → i < suc n → j < suc n → f i ≡ f j → i ≡ j) where
  skip_cases : (i : ℕ) → ((f i ≡ n) × (skip n f i ≡ f n)) ⊎ ((f i ≢ n) × (skip n f i ≡ f i))
  skip_cases i = grind arith

  not_last : (i : ℕ) → i < n → f i ≢ f n
  not_last i l e = grind arith

  skip_low : (i : ℕ) → i < n → skip n f i < n
  skip_low i l = grind arith

  skip_inj : (i j : ℕ) → i < n → j < n → skip n f i ≡ skip n f j → i ≡ j
  skip_inj i j li lj e = grind arith

  onto_step : ((x : ℕ) → x < n → (i : ℕ) × (i < n) × (skip n f i ≡ x)) → (v : ℕ) → v < suc n → (i : ℕ) × (i < suc n) × (f i ≡ v)
  onto_step found v l =
      both (eq_cases v (f n))
      (λ h. (n, omega arith, sym h.0))
      (λ h. both (eq_cases v n)
      (λ k. (let a = low n (omega arith) in let b = h.0 in let (i, li, e) = found (f n) (omega arith) in both (skip_cases i) (λ o. (i, omega arith, omega arith)) (λ o. absurd (not_last i li (omega arith)))))
      (λ k. (let (i, li, e) = found v (omega arith) in both (skip_cases i) (λ o. absurd (h.0 (omega arith))) (λ o. (i, omega arith, omega arith)))))

pub onto : (n : ℕ) (f : ℕ → ℕ) → ((i : ℕ) → i < n → f i < n) → ((i j : ℕ) → i < n → j < n → f i ≡ f j → i ≡ j) → (v : ℕ) → v < n → (i : ℕ) × (i < n) × (f i ≡ v)
onto zero f low inj v l = absurd (omega arith)
onto (suc n) f low inj v l = onto_step n f low inj (onto n (skip n f) (skip_low n f low inj) (skip_inj n f low inj)) v l

-- each point stands somewhere on the ring
pub ring_has : {n : ℕ} {r : List ℕ} → IsRing n r → (v : ℕ) → v < n → (i : ℕ) × (i < n) × (at r i ≡ v)
ring_has {n} {r} ring v l = onto n (at r) ring.below ring.apart v l

-- ---- the test `each_once`
is_none_lem : (o : Option ℕ) → is_none o ≡ true → o ≡ none
is_none_lem none h = refl
is_none_lem (some i) h = never (is_none (some i)) h refl

module _ (n : ℕ) (r : List ℕ) where
  -- no entry of a ring is at fault, and n entries of which none is are a ring
  ring_right : IsRing n r → FirstFault n r none
  ring_right ring i l f = grind arith

  right_ring : length r ≡ n → FirstFault n r none → IsRing n r
  right_ring e right = grind arith

  -- None exactly when each point is named once.
  pub none_decides : length r ≡ n → (first_fault n r ≡ none) ↔ IsRing n r
  none_decides e = grind (arith, right_ring, first_is, first_only, ring_right)

  pub each_ring : each_once n r ≡ true → IsRing n r
  each_ring h = grind (arith, none_decides, and_left, is_none_lem, and_right)

  pub ring_each : IsRing n r → each_once n r ≡ true
  ring_each ring = rw (eq-eqb (length r) n ring.len, (none_decides ring.len).1 ring) refl

  pub each_once_decides : (each_once n r ≡ true) ↔ IsRing n r
  each_once_decides = (each_ring, ring_each)
