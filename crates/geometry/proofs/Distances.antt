-- The square of a distance: either way, how large it is, and when it is not 0.
use mathlib.Core.Path.{◌≡◌, ap₂}
use mathlib.Core.Logic.{◌≢◌}
use Prim.Native.Nat.{ℕ, ◌+◌, ◌*◌, ◌≤◌}
use native.Mathlib.Omega.{arith}
use lib.IntN.{ℤ, pos, negsuc, ◌+ℤ◌, ◌-ℤ◌, ◌*ℤ◌}
use Rattle.algebra.specs.Cases.{both, eq_cases}
use borrow.Author.Differences.{ints}
use Rattle.algebra.specs.Size.{abs, abs_is, mul_bound}
use Rattle.geometry.specs.Plane.{Point, squared_distance}
use Rattle.geometry.specs.Lent.{InRange}
use Rattle.geometry.proofs.Reading.{gap_near}

-- squares as the machine makes them
pub squares_are : (u v : ℤ) → u *ℤ u +ℤ v *ℤ v ≡ pos (abs u * abs u + abs v * abs v)
squares_are u v = ap₂ ◌+ℤ◌ (square_is u) (square_is v)
  where
    square_is : (z : ℤ) → z *ℤ z ≡ pos (abs z * abs z)
    square_is (pos n) = omega (arith, ints)
    square_is (negsuc n) = omega (arith, ints)

abs_back : (a b : ℤ) → abs (a -ℤ b) ≡ abs (b -ℤ a)
abs_back a b = omega (arith, ints, abs_is (a -ℤ b), abs_is (b -ℤ a))

pub distance_back : (a b : Point) → squared_distance a b ≡ squared_distance b a
unfolding squared_distance
distance_back a b = let h = abs_back a.x b.x in let k = abs_back a.y b.y in λ i. h i * h i + k i * k i

-- two gaps of points within the limits
pub squares_small : (p q : ℕ) → p ≤ 2000000000 → q ≤ 2000000000 → p * p + q * q ≤ 8000000000000000000
squares_small p q h k = omega (arith, mul_bound p p 2000000000 2000000000 h h, mul_bound q q 2000000000 2000000000 k k)

pub distance_small : {a b : Point} → InRange a → InRange b → squared_distance a b ≤ 8000000000000000000
unfolding squared_distance
distance_small {a} {b} h k = squares_small (abs (a.x -ℤ b.x)) (abs (a.y -ℤ b.y)) (gap_near a.x b.x h.nx k.nx) (gap_near a.y b.y h.ny k.ny)

-- different points
pub distance_some : (a b : Point) → a ≢ b → 1 ≤ squared_distance a b
unfolding squared_distance
distance_some a b h =
    both (eq_cases (abs (a.x -ℤ b.x)) 0)
    (λ ex. both (eq_cases (abs (a.y -ℤ b.y)) 0)
    (λ ey. absurd (h (λ i. record { x = alike a.x b.x ex.0 i; y = alike a.y b.y ey.0 i })))
    (λ ny. omega (arith, some (abs (a.y -ℤ b.y)) ny.0)))
    (λ nx. omega (arith, some (abs (a.x -ℤ b.x)) nx.0))
  where
    alike : (u v : ℤ) → abs (u -ℤ v) ≡ 0 → u ≡ v
    alike u v e = omega (arith, ints, abs_is (u -ℤ v))

    some : (p : ℕ) → p ≢ 0 → 1 ≤ p * p
    some p n = let l : 1 ≤ p = omega (arith, n) in omega (arith, mul_bound 1 1 p p l l)
