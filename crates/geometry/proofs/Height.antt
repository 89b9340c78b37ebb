-- The height of a vertex: how many vertices lie below it in point order. So the order of distinct points is the order of numbers.
use mathlib.Core.Path.{◌≡◌, ap}
use mathlib.Core.Bool.{true, cond}
use Prim.Native.Nat.{ℕ, zero, suc, ◌≤◌, ◌<◌}
use native.Mathlib.Omega.{arith}
use Rattle.geometry.specs.Plane.{Point, lt_point}
use Rattle.geometry.proofs.Points.{lt_point_trans, lt_point_irrefl, lt_point_total}
use Rattle.algebra.specs.Cases.{both, eq_cases, true_or_false, never}

abbrev pub lower : (ℕ → Point) → ℕ → Point → ℕ
lower P zero v = 0
lower P (suc k) v = cond (lt_point (P k) v) (suc (lower P k v)) (lower P k v)

pub lower_le : (P : ℕ → Point) (k : ℕ) (v : Point) → lower P k v ≤ k
lower_le P zero v = omega arith
lower_le P (suc k) v = let h = lower_le P k v in both (true_or_false (lt_point (P k) v)) (λ t. rw t (omega arith)) (λ t. rw t (omega arith))

lower_mono : (P : ℕ → Point) (k : ℕ) (u v : Point) → lt_point u v ≡ true → lower P k u ≤ lower P k v
lower_mono P zero u v h = omega arith
lower_mono P (suc k) u v h =
    let g = lower_mono P k u v h in
    both (true_or_false (lt_point (P k) v))
    (λ t. both (true_or_false (lt_point (P k) u)) (λ s. rw (t, s) (omega arith)) (λ s. rw (t, s) (omega arith)))
    (λ t. both (true_or_false (lt_point (P k) u)) (λ s. never (lt_point (P k) v) (lt_point_trans (P k) u v s h) t) (λ s. rw (t, s) (omega arith)))

lower_lt : (P : ℕ → Point) (k i : ℕ) (v : Point) → i < k → lt_point (P i) v ≡ true → lower P k (P i) < lower P k v
lower_lt P zero i v l h = absurd (omega arith)
lower_lt P (suc k) i v l h =
    both (eq_cases i k)
    (λ e. both (true_or_false (lt_point (P k) (P i)))
    (λ s. absurd (lt_point_irrefl (P k) (rw e.0 at s)))
    (λ s. rw (s, rw e.0 at h) (let g = lower_mono P k (P i) v h in omega arith)))
    (λ e. let g = lower_lt P k i v (omega arith) h in
    both (true_or_false (lt_point (P k) v))
    (λ t. both (true_or_false (lt_point (P k) (P i))) (λ s. rw (t, s) (omega arith)) (λ s. rw (t, s) (omega arith)))
    (λ t. both (true_or_false (lt_point (P k) (P i))) (λ s. never (lt_point (P k) v) (lt_point_trans (P k) (P i) v s h) t) (λ s. rw (t, s) (omega arith))))

-- P is one-to-one on the positions
abbrev pub Apart : ℕ → (ℕ → Point) → Type 0
Apart n P = (i j : ℕ) → i < n → j < n → P i ≡ P j → i ≡ j

abbrev pub height : ℕ → (ℕ → Point) → ℕ → ℕ
height n P i = lower P n (P i)

module _ (n : ℕ) (P : ℕ → Point) (apart : Apart n P) where
  pub height_up : (i j : ℕ) → i < n → lt_point (P i) (P j) ≡ true → height n P i < height n P j
  height_up i j l h = lower_lt P n i (P j) l h

  pub height_down : (i j : ℕ) → i < n → j < n → height n P i < height n P j → lt_point (P i) (P j) ≡ true
  height_down i j li lj h =
      both (lt_point_total (P i) (P j) (λ e. (let z = ap (height n P) (apart i j li lj e) in omega arith)))
      (λ g. g) (λ g. absurd (let z = height_up j i lj g in omega arith))

  pub height_inj : (i j : ℕ) → i < n → j < n → height n P i ≡ height n P j → i ≡ j
  height_inj i j li lj e =
      both (eq_cases i j) (λ h. h.0)
      (λ h. both (lt_point_total (P i) (P j) (λ z. h.0 (apart i j li lj z)))
      (λ g. absurd (let z = height_up i j li g in omega arith)) (λ g. absurd (let z = height_up j i lj g in omega arith)))
