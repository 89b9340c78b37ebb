-- Signed words: what the machine reads of one, and back to the word.
use Rattle.std.proofs.Common.{◌≡◌, sym, ap, ◌∙◌, ℕ, ◌^◌, ◌<◌, ℤ, w32, arith}
use lib.Signed.{mag}
use mir.Val.{SFits, to_z, of_z}
use mir.ValLaws.{to_z-of_z}
use Rattle.algebra.specs.Cases.{both, le_cases}
use Rattle.job.specs.Words.{signed, bits_of}
use Rattle.job.proofs.TwosComplement.{signed_low, signed_high, bits_is}

-- the word of the number that a word means
pub bits_signed : (w : ℕ) → w < 2 ^ 32 → bits_of (signed w) ≡ w
unfolding bits_of
bits_signed w h =
    both (le_cases (2 ^ 31) w)
    (λ g. ap bits_of (signed_high w g.0 h) ∙ omega (arith, h))
    (λ g. ap bits_of (signed_low w g.0))

pub signed_size : (w : ℕ) → w < 2 ^ 32 → mag (signed w) < 2 ^ 31
signed_size w h =
    both (le_cases (2 ^ 31) w)
    (λ g. rw (signed_high w g.0 h) (omega (arith, h, g.0)))
    (λ g. rw (signed_low w g.0) (omega (arith, g.0)))

-- what the machine reads of a word
pub read_signed : {w k : ℕ} {v : ℤ} → v ≡ to_z w32 w → w < 2 ^ 32 → w ≡ k → to_z w32 (of_z w32 v) ≡ signed k
read_signed {w} {k} {v} e h same =
    let fits : SFits w32 (signed w) = record { sfits = signed_size w h } in
    let read : to_z w32 w ≡ signed w =
    ap (to_z w32) (sym (bits_signed w h) ∙ sym (bits_is (signed w))) ∙ to_z-of_z w32 (signed w) fits in
    ap (λ z. to_z w32 (of_z w32 z)) (e ∙ read) ∙ to_z-of_z w32 (signed w) fits ∙ ap signed same
