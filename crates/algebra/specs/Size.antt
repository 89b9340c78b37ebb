-- The size of an integer, in ℕ, and what fits a machine word.
use Rattle.std.specs.Prelude.{◌≡◌, ℕ, ◌+◌, ◌-◌, ◌*◌, ◌^◌, ◌≤◌, ◌<◌, ℤ, pos, negsuc, ◌+ℤ◌, ◌-ℤ◌, ◌*ℤ◌}
use Rattle.std.proofs.Common.{arith}
use Rattle.std.proofs.lemmas.Int.{ints}
use Rattle.std.specs.Int.{Width}
use mir.Val.{SFits, hbits}
use borrow.Author.Differences.{up, down}
pub use Rattle.std.proofs.lemmas.Nat.{mul-le as mul_bound}
pub use Rattle.algebra.specs.Integers.{P, N}

abbrev pub abs : ℤ → ℕ
abs z = P z + N z

-- the size by the two parts that `omega (arith, ints)` reads
pub abs_is : (z : ℤ) → abs z ≡ (up z - down z) + (down z - up z)
abs_is (pos n) = omega arith
abs_is (negsuc n) = omega arith

pub abs_sub : (a b : ℤ) → abs (a -ℤ b) ≤ abs a + abs b
abs_sub a b = omega (arith, ints, abs_is (a -ℤ b), abs_is a, abs_is b)

pub abs_add : (a b : ℤ) → abs (a +ℤ b) ≤ abs a + abs b
abs_add a b = omega (arith, ints, abs_is (a +ℤ b), abs_is a, abs_is b)

pub abs_mul : (a b : ℤ) → abs (a *ℤ b) ≤ abs a * abs b
abs_mul (pos a) (pos b) = omega arith
abs_mul (pos a) (negsuc b) = omega (arith, ints, abs_is (pos a *ℤ negsuc b))
abs_mul (negsuc a) (pos b) = omega (arith, ints, abs_is (negsuc a *ℤ pos b))
abs_mul (negsuc a) (negsuc b) = omega arith

pub fits : (w : Width) (z : ℤ) → abs z < 2 ^ hbits w → SFits w z
fits w (pos n) h = record { sfits = omega arith }
fits w (negsuc n) h = record { sfits = omega arith }

-- what fits, in ℕ
pub fits_abs : (w : Width) (z : ℤ) → SFits w z → abs z ≤ 2 ^ hbits w
fits_abs w (pos n) h = omega (arith, h.sfits)
fits_abs w (negsuc n) h = omega (arith, h.sfits)
