-- `root` is the one number that `Root` describes.
use mathlib.Core.Path.{◌≡◌, refl}
use Prim.Native.Nat.{ℕ, zero, suc, ◌+◌, ◌*◌, ◌/◌, ◌≤◌, ◌<◌}
use native.Mathlib.Omega.{arith}
use Rattle.algebra.specs.Cases.{both, le_cases}
use Rattle.integer_root.specs.Root.{Root, or_more, root_to, root}

-- 0, a square, one below it and one above it; the greatest number of 64 bits, and the greatest square and one below it
pub rows : (root 0 ≡ 0) × (root 24 ≡ 4) × (root 25 ≡ 5) × (root 26 ≡ 5)
    × (root 18446744073709551615 ≡ 4294967295) × (root 18446744065119617025 ≡ 4294967295) × (root 18446744065119617024 ≡ 4294967294)
unfolding root root_to
rows = (refl, refl, refl, refl, refl, refl, refl)

-- from the fourth part to the whole
more_is : (r v : ℕ) → Root (v / 4) r → Root v (or_more (2 * r) v)
more_is r v h =
    both (le_cases ((2 * r + 1) * (2 * r + 1)) v)
    (λ g. rw g.1 (record { low = g.0; high = omega (arith, h.high) }))
    (λ g. rw g.1 (record { low = omega (arith, h.low); high = g.0 }))

to_is : (k v : ℕ) → v ≤ k → Root v (root_to k v)
unfolding root_to
to_is zero v l = grind arith
to_is (suc k) zero l = grind arith
to_is (suc k) (suc v) l = more_is (root_to k (suc v / 4)) (suc v) (to_is k (suc v / 4) (omega arith))

pub root_is : (v : ℕ) → Root v (root v)
unfolding root
root_is v = to_is v v (omega arith)

-- every number whose square is at most v is at most its root
pub root_greatest : (v f g : ℕ) → Root v f → g * g ≤ v → g ≤ f
root_greatest v f g h k = grind arith

-- the one such number
pub root_only : (v f : ℕ) → Root v f → f ≡ root v
root_only v f h = let r = root_is v in grind arith

-- the same of a number by its two squares
pub root_of : {v f : ℕ} → f * f ≤ v → v < (f + 1) * (f + 1) → f ≡ root v
root_of {v} {f} low high = root_only v f (record { low = low; high = high })

-- the root of a number below the square of b is below b
pub root_below : (v b : ℕ) → v < b * b → root v < b
root_below v b h = let r = root_is v in grind arith
