-- Areas that share bytes: the test decides it, and what follows for empty areas and for areas one behind the other.
use mathlib.Core.Path.{◌≡◌, refl}
use mathlib.Core.Bool.{true, false}
use mathlib.Core.Logic.{◌↔◌}
use Prim.Native.Nat.{ℕ, ◌+◌, ◌≤◌, ◌<◌}
use native.Mathlib.Omega.{arith}
use Rattle.algebra.specs.Cases.{both, le_cases}
use Rattle.job.specs.Job.{SharesBytes, shares_bytes}

module _ (s k t m : ℕ) where
  -- the byte that both have is the greater of the two starts
  shares : shares_bytes s k t m ≡ true → SharesBytes s k t m
  unfolding shares_bytes
  shares h =
      let a : t < s + k = grind arith in
      let b : s < t + m = grind arith in
      let sizes : (0 < k) × (0 < m) = (grind arith, grind arith) in
      both (le_cases s t)
      (λ c. (t, (c.0, a), (omega arith, omega (arith, sizes.1))))
      (λ c. (s, (omega arith, omega (arith, sizes.0)), (omega (arith, c.0), b)))

  shared : SharesBytes s k t m → shares_bytes s k t m ≡ true
  unfolding shares_bytes
  shared (b, (h, g), (h', g')) = grind arith

  pub shares_decides : (shares_bytes s k t m ≡ true) ↔ SharesBytes s k t m
  shares_decides = (shares, shared)

  -- an empty area shares nothing, wherever it starts
  pub empty_first : k ≡ 0 → shares_bytes s k t m ≡ false
  unfolding shares_bytes
  empty_first e = grind arith

  pub empty_second : m ≡ 0 → shares_bytes s k t m ≡ false
  unfolding shares_bytes
  empty_second e = grind arith

  -- an area ends where the other starts, or before
  pub ends_before : s + k ≤ t → shares_bytes s k t m ≡ false
  unfolding shares_bytes
  ends_before h = grind arith

-- Four points and a pick: one behind the other in both orders, one byte in common in both orders, one in the other; no pick in the middle of the
-- points, and no point in the middle of ten picks; both empty; and the exporter's case, two picks over the last point.
pub rows : (shares_bytes 20 32 52 4 ≡ false) × (shares_bytes 24 32 20 4 ≡ false)
    × (shares_bytes 20 32 51 4 ≡ true) × (shares_bytes 23 32 20 4 ≡ true) × (shares_bytes 20 32 30 4 ≡ true)
    × (shares_bytes 20 32 30 0 ≡ false) × (shares_bytes 30 0 20 40 ≡ false) × (shares_bytes 30 0 30 0 ≡ false)
    × (shares_bytes 20 32 44 8 ≡ true)
unfolding shares_bytes
rows = (refl, refl, refl, refl, refl, refl, refl, refl, refl)
