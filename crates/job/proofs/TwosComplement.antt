-- Words in two's complement, and the machine's signed numbers without their sign.
use mathlib.Core.Path.{◌≡◌, refl, ap, ◌∙◌}
use mathlib.Core.List.{List}
use Prim.Native.Nat.{ℕ, suc, ◌+◌, ◌-◌, ◌^◌, ◌≤◌, ◌<◌}
use native.Mathlib.Omega.{arith}
use lib.ListN.{get_or}
use lib.Signed.{mag}
use lib.IntN.{ℤ, pos, negsuc}
use mir.Syntax.{w32}
use mir.Val.{SFits, to_z, of_z}
use mir.ValLaws.{to_z-of_z}
use borrow.Author.Tests.{lt-ltb, le-ltb}
use Rattle.job.specs.Words.{word, signed, bits_of}

-- ---- a word, by its highest bit
pub signed_low : (w : ℕ) → w < 2 ^ 31 → signed w ≡ pos w
unfolding signed
signed_low w h = rw (lt-ltb w (2 ^ 31) h)

pub signed_high : (w : ℕ) → 2 ^ 31 ≤ w → w < 2 ^ 32 → signed w ≡ negsuc (4294967295 - w)
unfolding signed
signed_high w h k =
    let e : 4294967296 - suc w ≡ 4294967295 - w = omega arith in
    rw (le-ltb w (2 ^ 31) h, lt-ltb w (2 ^ 32) k, e)

pub signed_bits : (z : ℤ) → mag z < 2 ^ 31 → signed (bits_of z) ≡ z
unfolding bits_of
signed_bits (pos n) h = signed_low n h
signed_bits (negsuc n) h = signed_high (2 ^ 32 - suc n) (omega arith) (omega arith) ∙ ap negsuc (omega arith)

pub bits_small : (z : ℤ) → mag z < 2 ^ 31 → bits_of z < 2 ^ 32
unfolding bits_of
bits_small (pos n) h = omega arith
bits_small (negsuc n) h = omega arith

-- ---- words of bytes
pub record Bytes (l : List ℕ) : Type 0 where
  pub byte : (i : ℕ) → get_or l i 0 < 256

pub word_range : (l : List ℕ) (i : ℕ) → Bytes l → word l i < 2 ^ 32
unfolding word
word_range l i b = omega (arith, b.byte i, b.byte (i + 1), b.byte (i + 2), b.byte (i + 3))

-- ---- the word of a number, as the machine has it
pub bits_is : (z : ℤ) → of_z w32 z ≡ bits_of z
unfolding bits_of
bits_is (pos n) = refl
bits_is (negsuc n) = refl

pub bits_read : {b : ℕ} {v z : ℤ} → b ≡ of_z w32 (to_z w32 (of_z w32 v)) → SFits w32 v → v ≡ z → b ≡ bits_of z
bits_read {v = v} {z = z} e h same = e ∙ ap (of_z w32) (to_z-of_z w32 v h ∙ same) ∙ bits_is z
