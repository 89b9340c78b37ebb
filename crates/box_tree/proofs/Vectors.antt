-- What the operations on vectors give of lanes that fit 32 bits, which a proof has as bits.
use Rattle.std.specs.Prelude.{◌≡◌, ℕ, Bool, true, false, not, ◌&&◌, cond, nat_eq, ◌+◌, ◌*◌, ◌%◌, ℤ}
use Rattle.std.specs.Int.{int_min, int_max}
use Rattle.std.specs.Int.Signed.{lt_z, le_z}
use Rattle.std.proofs.Common.{refl, arith}
use Rattle.std.proofs.lemmas.Int.{ints, clamps, to_z-of_z}
use lib.Lanes.{top}
use mir.Syntax.{w32}
use mir.Val.{SFits, to_z, of_z}

-- a comparison's lane is all ones or 0
abbrev ones : Bool → ℕ
ones t = cond t 4294967295 0

-- the test that its top bit is set
abbrev set : Bool → Bool
set t = top 31 (ones t)

module _ (a b : ℤ) (fa : SFits w32 a) (fb : SFits w32 b) where
  abbrev less : Bool
  less = lt_z (to_z w32 (of_z w32 a)) (to_z w32 (of_z w32 b))

  pub lesser : to_z w32 (cond (set less) (of_z w32 a) (of_z w32 b)) ≡ int_min a b
  lesser = grind (arith, ints, clamps, to_z-of_z)

  pub greater : to_z w32 (cond (set less) (of_z w32 b) (of_z w32 a)) ≡ int_max a b
  greater = grind (arith, ints, clamps, to_z-of_z)

  pub not_less : not less ≡ le_z b a
  not_less = grind (arith, ints, to_z-of_z)

-- No bit of a mask is set where each of the four tests fails.
abbrev bit : Bool → ℕ
bit t = cond (set t) 1 0

pub none_set : (p q r s : Bool) → nat_eq ((bit p + 2 * (bit q + 2 * (bit r + 2 * (bit s + 0)))) % 18446744073709551616) 0 ≡ ((not r && not p) && (not s && not q))
none_set false false false false = refl
none_set false false false true = refl
none_set false false true false = refl
none_set false false true true = refl
none_set false true false false = refl
none_set false true false true = refl
none_set false true true false = refl
none_set false true true true = refl
none_set true false false false = refl
none_set true false false true = refl
none_set true false true false = refl
none_set true false true true = refl
none_set true true false false = refl
none_set true true false true = refl
none_set true true true false = refl
none_set true true true true = refl
