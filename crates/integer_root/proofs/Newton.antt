-- Newton's step: the mean of x and v / x is not below the root of v, and where it is no less than x, x is not above it.
use mathlib.Core.Path.{◌≡◌}
use Prim.Native.Nat.{ℕ, ◌+◌, ◌-◌, ◌*◌, ◌/◌, ◌≤◌, ◌<◌}
use native.Mathlib.Omega.{arith}
use native.Mathlib.Nat.{div-add-mod', mod-lt}
use Rattle.algebra.specs.Cases.{both, le_cases}
use Rattle.algebra.specs.Size.{mul_bound}

-- four times a product is at most the square of the sum
means : (a b : ℕ) → 4 * (a * b) ≤ (a + b) * (a + b)
means a b =
    both (le_cases a b)
    (λ h. let e : b ≡ a + (b - a) = omega (arith, h.0) in rw e (apart a (b - a)))
    (λ h. let e : a ≡ b + (a - b) = omega (arith, h.0) in let m = apart b (a - b) in omega (arith, rw (← e) at m))
  where
    apart : (a d : ℕ) → 4 * (a * (a + d)) ≤ (a + (a + d)) * (a + (a + d))
    apart a d = omega arith

module _ (v x : ℕ) (some : 1 ≤ x) where
  quotient : (v / x * x ≤ v) × (v < (v / x + 1) * x)
  quotient = let e = div-add-mod' v x in let m = mod-lt v some in (omega (arith, e), omega (arith, e, m))

  pub step_above : v < ((x + v / x) / 2 + 1) * ((x + v / x) / 2 + 1)
  step_above = go (v / x) ((x + v / x) / 2) quotient.1 (omega arith)
    where
      go : (q t : ℕ) → v < (q + 1) * x → x + q ≤ 2 * t + 1 → v < (t + 1) * (t + 1)
      go q t h k =
          let l : x + (q + 1) ≤ 2 * t + 2 = omega (arith, k) in
          omega (arith, h, means x (q + 1), mul_bound (x + (q + 1)) (x + (q + 1)) (2 * t + 2) (2 * t + 2) l l)

  pub step_root : x ≤ (x + v / x) / 2 → x * x ≤ v
  step_root h = let l : x ≤ v / x = omega (arith, h) in omega (arith, quotient.0, mul_bound x x (v / x) x l (omega arith))

  pub step_room : v < (x + 1) * (x + 1) → v / x ≤ x + 2
  step_room h =
      both (le_cases (v / x) (x + 2)) (λ c. c.0)
      (λ c. absurd (let m = mul_bound (x + 3) x (v / x) x (omega (arith, c.0)) (omega arith) in omega (arith, m, h, quotient.0, some)))
