-- What the machine reads of a number is the number, where it fits: tests of bits are tests of numbers, and gaps, products and turns of
-- points within the limits fit 64 bits.
use mathlib.Core.Path.{◌≡◌, refl, ◌∙◌, ap₂}
use mathlib.Core.Bool.{true}
use mathlib.Core.List.{List}
use Prim.Native.Nat.{ℕ, ◌^◌, ◌≤◌, ◌<◌}
use native.Mathlib.Omega.{arith}
use lib.Dec.{eqb}
use lib.IntN.{ℤ, pos, negsuc, ◌-ℤ◌, ◌*ℤ◌}
use lib.Signed.{mag}
use mir.Syntax.{w32, w64}
use mir.Val.{SFits, to_z, of_z}
use mir.ValLaws.{to_z-of_z}
use borrow.Author.Tests.{ne_eqb, leb-true}
use Rattle.algebra.specs.Size.{abs, abs_sub, abs_mul, mul_bound, fits}
use Rattle.algebra.specs.Cases.{and_left, and_right}
use Rattle.geometry.specs.Plane.{Point, is_zero, near, near_point}
use Rattle.geometry.specs.Lent.{points, InRange, Here, Lent}

-- ---- reading back
-- a signed result of 64 bits is what it is read as
pub read_64 : {z t : ℤ} → mag z < 2 ^ 63 → z ≡ t → to_z w64 (of_z w64 z) ≡ t
read_64 {z} h e = to_z-of_z w64 z (record { sfits = h }) ∙ e

-- a 64-bit argument that is handed on
pub read_given : {z t : ℤ} → SFits w64 z → z ≡ t → to_z w64 (of_z w64 z) ≡ t
read_given {z} f e = to_z-of_z w64 z f ∙ e

-- ---- tests of bits
pub zero_bits : (a : ℤ) → SFits w64 a → eqb (of_z w64 a) 0 ≡ is_zero a
zero_bits (pos n) f = refl
zero_bits (negsuc n) f = ne_eqb (of_z w64 (negsuc n)) 0 (λ e. (let z = f.sfits in omega arith))

-- ---- within the limits
pub abs_near : (z : ℤ) → near z ≡ true → abs z ≤ 1000000000
abs_near (pos n) e = omega (arith, leb-true n 1000000000 e)
abs_near (negsuc n) e = omega (arith, leb-true n 999999999 (and_left _ true e))

pub gap_near : (a b : ℤ) → near a ≡ true → near b ≡ true → abs (a -ℤ b) ≤ 2000000000
gap_near a b h k = omega (arith, abs_sub a b, abs_near a h, abs_near b k)

-- ---- what fits 64 bits
pub fits64 : {z : ℤ} → abs z ≤ 8000000000000000000 → SFits w64 z
fits64 {z} h = fits w64 z (omega arith)

pub read_gap : {g a b : ℤ} → mag g < 2 ^ 63 → SFits w32 a → SFits w32 b → g ≡ to_z w32 (of_z w32 a) -ℤ to_z w32 (of_z w32 b) → to_z w64 (of_z w64 g) ≡ a -ℤ b
read_gap {a = a} {b = b} h fa fb e = read_64 h (e ∙ ap₂ ◌-ℤ◌ (to_z-of_z w32 a fa) (to_z-of_z w32 b fb))

pub mul_fits : (u v : ℤ) → abs u ≤ 2000000000 → abs v ≤ 2000000000 → abs (u *ℤ v) ≤ 4000000000000000000
mul_fits u v h k = omega (arith, abs_mul u v, mul_bound (abs u) (abs v) 2000000000 2000000000 h k)

pub cross_bound : (u v w z : ℤ) → abs u ≤ 2000000000 → abs v ≤ 2000000000 → abs w ≤ 2000000000 → abs z ≤ 2000000000 → abs (u *ℤ v -ℤ w *ℤ z) ≤ 8000000000000000000
cross_bound u v w z hu hv hw hz = omega (arith, abs_sub (u *ℤ v) (w *ℤ z), mul_fits u v hu hv, mul_fits w z hw hz)

-- ---- within the limits, as facts
pub in_range_lem : (p : Point) → near_point p ≡ true → InRange p
in_range_lem p e = record { nx = and_left (near p.x) (near p.y) e; ny = and_right (near p.x) (near p.y) e }

pub here_in_range : {x y : List ℤ} {i : ℕ} → Here x y i → InRange (points x y i)
here_in_range h = record { nx = h.nx; ny = h.ny }

pub gap_x : {a b : Point} → InRange a → InRange b → (z : ℤ) → z ≡ a.x -ℤ b.x → abs z ≤ 2000000000
gap_x {a} {b} ha hb z e = rw e (gap_near a.x b.x ha.nx hb.nx)

pub gap_y : {a b : Point} → InRange a → InRange b → (z : ℤ) → z ≡ a.y -ℤ b.y → abs z ≤ 2000000000
gap_y {a} {b} ha hb z e = rw e (gap_near a.y b.y ha.ny hb.ny)

-- one of n lent points
pub here : {n : ℕ} {x y : List ℤ} {i : ℕ} → Lent n x y → i < n → Here x y i
here {i = i} l h = record { lx = omega (arith, l.lx); ly = omega (arith, l.ly); nx = l.nx i h; ny = l.ny i h }
