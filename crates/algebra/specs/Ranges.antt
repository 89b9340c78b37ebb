-- The numbers from i on, tables over them, and tests of them: of all, of some, and the least that passes.
use Rattle.std.specs.Prelude.{◌≡◌, refl, Bool, true, false, ◌&&◌, ◌||◌, cond, List, [], ◌∷◌, map, ℕ, zero, suc, ◌+◌, ◌≤◌, ◌<◌, length, get_or}
use Rattle.std.proofs.Common.{sym, ◌∙◌, ap, arith, add-one}
use Rattle.std.proofs.Math.Option.{Option, none, some}
use Rattle.algebra.specs.Cases.{both, le_cases, true_or_false, never, and_left, and_right, or_cases, or_right}

-- i, i + 1, .., k numbers
abbrev pub up_from : ℕ → ℕ → List ℕ
up_from i zero = []
up_from i (suc k) = i ∷ up_from (suc i) k

pub up_from_length : (i n : ℕ) → length (up_from i n) ≡ n
up_from_length i zero = refl
up_from_length i (suc n) = ap suc (up_from_length (suc i) n)

pub table_at : {B : Type 0} (f : ℕ → B) (d : B) (s n i : ℕ) → i < n → get_or (map f (up_from s n)) i d ≡ f (s + i)
table_at f d s zero i l = absurd (omega arith)
table_at f d s (suc n) zero l = ap f (omega arith)
table_at f d s (suc n) (suc i) l = table_at f d (suc s) n i (omega arith) ∙ ap f (omega arith)

-- the test p holds of every number below k
abbrev pub all_below : ℕ → (ℕ → Bool) → Bool
all_below zero p = true
all_below (suc k) p = all_below k p && p k

pub all_true : (k : ℕ) (p : ℕ → Bool) → all_below k p ≡ true → (i : ℕ) → i < k → p i ≡ true
all_true zero p h i l = absurd (omega arith)
all_true (suc k) p h i l =
    both (le_cases k i)
    (λ g. rw (let e : i ≡ k = omega (arith, g.0) in e) (and_right (all_below k p) (p k) h))
    (λ g. all_true k p (and_left (all_below k p) (p k) h) i g.0)

pub true_all : (k : ℕ) (p : ℕ → Bool) → ((i : ℕ) → i < k → p i ≡ true) → all_below k p ≡ true
true_all zero p h = refl
true_all (suc k) p h = rw (true_all k p (λ i l. h i (omega arith)), h k (omega arith))

-- one after the other, as a loop goes
pub all_more : (p : ℕ → Bool) (i : ℕ) → all_below i p ≡ true → p i ≡ true → all_below (i + 1) p ≡ true
all_more p i h e = ap (λ m. all_below m p) (add-one i) ∙ ap (λ t. t && p i) h ∙ e

pub all_fails : (p : ℕ → Bool) (n i : ℕ) → i < n → p i ≡ false → false ≡ all_below n p
all_fails p n i l e = both (true_or_false (all_below n p)) (λ t. never (p i) (all_true n p t i l) e) (λ t. sym t)

pub all_done : (p : ℕ → Bool) (n i : ℕ) → n ≤ i → i ≤ n → all_below i p ≡ true → true ≡ all_below n p
all_done p n i h k e = sym e ∙ ap (λ m. all_below m p) (let z : i ≡ n = omega arith in z)

-- a symmetric relation that never holds of two different numbers below k makes them equal
pub by_order : (k : ℕ) (R : ℕ → ℕ → Type 0) → ((i j : ℕ) → R i j → R j i) → ((i j : ℕ) → j < i → i < k → R j i → ⊥) → (i j : ℕ) → i < k → j < k → R i j → i ≡ j
by_order k R swap never_both i j li lj h =
    both (le_cases (suc i) j)
    (λ g. absurd (never_both j i g.0 lj h))
    (λ g. both (le_cases (suc j) i) (λ f. absurd (never_both i j f.0 li (swap i j h))) (λ f. omega arith))

-- the test p holds of some number below k
abbrev pub some_below : ℕ → (ℕ → Bool) → Bool
some_below zero p = false
some_below (suc k) p = some_below k p || p k

pub some_true : (k : ℕ) (p : ℕ → Bool) → some_below k p ≡ true → (i : ℕ) × (i < k) × (p i ≡ true)
some_true zero p h = never false h refl
some_true (suc k) p h = both (or_cases (some_below k p) (p k) h) (λ g. let (i, l, e) = some_true k p g in (i, omega arith, e)) (λ g. (k, omega arith, g))

pub true_some : (k : ℕ) (p : ℕ → Bool) (i : ℕ) → i < k → p i ≡ true → some_below k p ≡ true
true_some zero p i l e = absurd (omega arith)
true_some (suc k) p i l e =
    both (le_cases k i)
    (λ g. or_right (some_below k p) (p k) (ap p (omega (arith, l, g.0)) ∙ e))
    (λ g. ap (λ t. t || p k) (true_some k p i g.0 e))

-- the least of the k numbers from i on that the test p holds of; none if there is none
abbrev pub least_from : ℕ → ℕ → (ℕ → Bool) → Option ℕ
least_from i zero p = none
least_from i (suc k) p = cond (p i) (some i) (least_from (suc i) k p)

-- what it is
abbrev pub IsLeast : ℕ → ℕ → (ℕ → Bool) → Option ℕ → Type 0
IsLeast i k p none = (j : ℕ) → i ≤ j → j < i + k → p j ≡ false
IsLeast i k p (some m) = (i ≤ m) × (m < i + k) × (p m ≡ true) × ((j : ℕ) → i ≤ j → j < m → p j ≡ false)

pub least_is : (i k : ℕ) (p : ℕ → Bool) → IsLeast i k p (least_from i k p)
least_is i zero p = λ j h l. absurd (omega (arith, h, l))
least_is i (suc k) p =
    both (true_or_false (p i))
    (λ t. rw t (omega arith, omega arith, t, λ j h l. absurd (omega (arith, h, l))))
    (λ t. rw t (earlier t (least_from (suc i) k p) (least_is (suc i) k p)))
  where
    -- from i on where p does not hold of i
    from_here : p i ≡ false → (m : ℕ) → ((j : ℕ) → suc i ≤ j → j < m → p j ≡ false) → (j : ℕ) → i ≤ j → j < m → p j ≡ false
    from_here t m h j a b = both (le_cases j i) (λ g. ap p (omega (arith, a, g.0)) ∙ t) (λ g. h j g.0 b)

    earlier : p i ≡ false → (o : Option ℕ) → IsLeast (suc i) k p o → IsLeast i (suc k) p o
    earlier t none h = from_here t (i + suc k) (λ j a b. h j a (omega (arith, b)))
    earlier t (some m) (a, b, e, h) = (omega (arith, a), omega (arith, b), e, from_here t m h)
