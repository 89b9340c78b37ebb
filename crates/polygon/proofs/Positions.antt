-- Positions on a ring: the laws of next, prev, dist and back, and of the maps flip and slide.
use mathlib.Core.Path.{◌≡◌, sym, ◌∙◌, ap}
use mathlib.Core.Logic.{◌⊎◌, inl, inr, ◌≢◌}
use Prim.Native.Nat.{ℕ, suc, ◌+◌, ◌≤◌, ◌<◌}
use native.Mathlib.Omega.{arith}
use borrow.Author.Tests.{le-leb, lt-leb, eq-eqb, ne_eqb}
use Rattle.polygon.specs.Ring.{next, prev, dist, flip, slide}
use Rattle.algebra.specs.Cases.{le_cases, eq_cases, both, four}

-- ---- what each function is, with no subtraction
pub next_cases : (n i : ℕ) → ((suc i ≡ n) × (next n i ≡ 0)) ⊎ ((suc i ≢ n) × (next n i ≡ suc i))
next_cases n i = grind arith

pub prev_cases : (n i : ℕ) → i < n → ((i ≡ 0) × (suc (prev n i) ≡ n)) ⊎ ((0 < i) × (suc (prev n i) ≡ i))
prev_cases n i l = grind arith

pub dist_cases : (n p i : ℕ) → p < n → ((p ≤ i) × (dist n p i + p ≡ i)) ⊎ ((i < p) × (dist n p i + p ≡ i + n))
dist_cases n p i l = grind arith

module _ (n i : ℕ) (l : i < n) where
  pub next_lt : next n i < n
  next_lt = grind arith

  pub prev_lt : prev n i < n
  prev_lt = grind arith

  pub next_prev : next n (prev n i) ≡ i
  next_prev = grind arith

  pub prev_next : prev n (next n i) ≡ i
  prev_next = grind arith

pub next_not : (n i : ℕ) → 2 ≤ n → i < n → next n i ≢ i
next_not n i two l e = grind arith

pub prev_not : (n i : ℕ) → 2 ≤ n → i < n → prev n i ≢ i
prev_not n i two l e = grind arith

-- ---- positions counted from p: dist n p maps the positions onto 0 .. n - 1, and next is the next one there too
module _ (n p : ℕ) (lp : p < n) where
  pub dist_self : dist n p p ≡ 0
  dist_self = grind arith

  pub dist_lt : (i : ℕ) → i < n → dist n p i < n
  dist_lt i l = grind arith

  pub dist_inj : (i j : ℕ) → i < n → j < n → dist n p i ≡ dist n p j → i ≡ j
  dist_inj i j li lj e = grind arith

  pub dist_next : (i : ℕ) → i < n → dist n p (next n i) ≡ next n (dist n p i)
  dist_next i l = grind arith

  pub dist_suc : (i : ℕ) → i < n → suc (dist n p i) < n → dist n p (next n i) ≡ suc (dist n p i)
  dist_suc i l h = grind arith

  pub dist_wrap : (i : ℕ) → i < n → suc (dist n p i) ≡ n → dist n p (next n i) ≡ 0
  dist_wrap i l h = grind arith

  pub dist_pred : (i : ℕ) → i < n → 0 < dist n p i → suc (dist n p (prev n i)) ≡ dist n p i
  dist_pred i l h = grind arith

  -- only p is no step from p
  pub dist_zero : (i : ℕ) → i < n → dist n p i ≡ 0 → i ≡ p
  dist_zero i l h = dist_inj i p l lp (h ∙ sym dist_self)

-- ---- reversing: the places from p on to q change ends
pub flip_out : (n p q i : ℕ) → dist n p q < dist n p i → flip n p q i ≡ i
flip_out n p q i h = rw (lt-leb (dist n p i) (dist n p q) h)

module _ (n p q : ℕ) (lp : p < n) (lq : q < n) where
  pub flip_in : (i : ℕ) → dist n p i ≤ dist n p q → dist n p (flip n p q i) + dist n p i ≡ dist n p q
  flip_in i h = grind arith

  pub flip_lt : (i : ℕ) → i < n → flip n p q i < n
  flip_lt i l = grind arith

  pub flip_flip : (i : ℕ) → i < n → flip n p q (flip n p q i) ≡ i
  flip_flip i l =
      both (le_cases (dist n p i) (dist n p q))
      (λ h. let e = flip_in i h.0 in dist_inj n p lp _ _ (flip_lt _ (flip_lt i l)) l (omega (arith, flip_in (flip n p q i) (omega arith))))
      (λ h. let e = flip_out n p q i h.0 in ap (flip n p q) e ∙ e)

  pub flip_inj : (i j : ℕ) → i < n → j < n → flip n p q i ≡ flip n p q j → i ≡ j
  flip_inj i j li lj e = sym (flip_flip i li) ∙ ap (flip n p q) e ∙ flip_flip j lj

-- ---- joining: k comes to stand right behind e, and those between move on by one
module _ (n e k i : ℕ) where
  pub slide_zero : dist n e i ≡ 0 → slide n e k i ≡ i
  slide_zero h = rw (eq-eqb (dist n e i) 0 h)

  pub slide_one : dist n e i ≡ 1 → slide n e k i ≡ k
  slide_one h = grind arith

  pub slide_in : 1 < dist n e i → dist n e i ≤ dist n e k → slide n e k i ≡ prev n i
  slide_in h g = rw (ne_eqb (dist n e i) 0 (omega arith), ne_eqb (dist n e i) 1 (omega arith), le-leb (dist n e i) (dist n e k) g)

  pub slide_out : 1 < dist n e i → dist n e k < dist n e i → slide n e k i ≡ i
  slide_out h g = rw (ne_eqb (dist n e i) 0 (omega arith), ne_eqb (dist n e i) 1 (omega arith), lt-leb (dist n e i) (dist n e k) g)

module _ (n e k : ℕ) (le : e < n) (lk : k < n) where
  -- the four cases, counted from e
  pub slide_cases : 0 < dist n e k → (i : ℕ) → i < n →
      ((dist n e i ≡ 0) × (dist n e (slide n e k i) ≡ 0)) ⊎ ((dist n e i ≡ 1) × (dist n e (slide n e k i) ≡ dist n e k))
      ⊎ ((1 < dist n e i) × (dist n e i ≤ dist n e k) × (suc (dist n e (slide n e k i)) ≡ dist n e i)) ⊎ ((dist n e k < dist n e i) × (dist n e (slide n e k i) ≡ dist n e i))
  slide_cases m i l =
      both (eq_cases (dist n e i) 0)
      (λ h. inl (h.0, ap (dist n e) (slide_zero n e k i h.0) ∙ h.0))
      (λ h. both (eq_cases (dist n e i) 1)
      (λ g. inr (inl (g.0, ap (dist n e) (slide_one n e k i g.0))))
      (λ g. both (le_cases (dist n e i) (dist n e k))
      (λ f. inr (inr (inl (omega arith, f.0, ap (λ j. suc (dist n e j)) (slide_in n e k i (omega arith) f.0) ∙ dist_pred n e le i l (omega arith)))))
      (λ f. inr (inr (inr (f.0, ap (dist n e) (slide_out n e k i (omega arith) f.0)))))))

  pub slide_lt : (i : ℕ) → i < n → slide n e k i < n
  slide_lt i l = grind arith

  pub slide_inj : 0 < dist n e k → (i j : ℕ) → i < n → j < n → slide n e k i ≡ slide n e k j → i ≡ j
  slide_inj m i j li lj p =
      let q = ap (dist n e) p in
      dist_inj n e le i j li lj (four (slide_cases m i li)
      (λ h. four (slide_cases m j lj) (λ g. omega arith) (λ g. omega arith) (λ g. omega arith) (λ g. omega arith))
      (λ h. four (slide_cases m j lj) (λ g. omega arith) (λ g. omega arith) (λ g. omega arith) (λ g. omega arith))
      (λ h. four (slide_cases m j lj) (λ g. omega arith) (λ g. omega arith) (λ g. omega arith) (λ g. omega arith))
      (λ h. four (slide_cases m j lj) (λ g. omega arith) (λ g. omega arith) (λ g. omega arith) (λ g. omega arith)))
