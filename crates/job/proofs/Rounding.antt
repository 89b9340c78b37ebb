-- `steps` is the one number that `Nearest` describes; the mirror law for numbers and words; the rows of the requests' page; and how large a step
-- count can be. What is nearest is shown for numbers from 0 on; the rest is its mirror image.
use mathlib.Core.Path.{◌≡◌, refl, sym, ap, ◌∙◌}
use mathlib.Core.Logic.{◌≢◌}
use Prim.Native.Nat.{ℕ, zero, suc, ◌-◌, ◌^◌, ◌≤◌, ◌<◌}
use native.Mathlib.Omega.{arith}
use lib.IntN.{ℤ, pos, negsuc, neg_ℤ, nat_abs, neg_ℤ-neg_ℤ, ◌-ℤ◌}
use lib.Signed.{mag}
use mir.Syntax.{w32}
use mir.Val.{to_z, of_z}
use mir.ValLaws.{to_z_pos}
use borrow.Author.Differences.{ints}
use Rattle.algebra.specs.Size.{abs, abs_is}
use Rattle.algebra.specs.Cases.{both, le_cases}
use Rattle.job.specs.Words.{signed, bits_of}
use Rattle.job.specs.Steps.{distance, Nearest, tenth, steps}
use Rattle.job.proofs.TwosComplement.{signed_low, signed_high, signed_bits}

-- ---- both sides of 0
nat_abs_neg : (z : ℤ) → nat_abs (neg_ℤ z) ≡ nat_abs z
nat_abs_neg z = omega (arith, ints)

distance_mirror : (v s : ℤ) → distance (neg_ℤ v) (neg_ℤ s) ≡ distance v s
distance_mirror v s = omega (arith, ints)

-- what is nearest to -v is the negative of what is nearest to v
pub nearest_mirror : {v s : ℤ} → Nearest v s → Nearest (neg_ℤ v) (neg_ℤ s)
nearest_mirror {v} {s} h =
    record {
      nearest = λ t. omega (arith, distance_mirror v s, back t, h.nearest (neg_ℤ t));
      farther = λ t e. omega (arith, nat_abs_neg s, nat_abs_neg t, h.farther (neg_ℤ t) (sym (back t) ∙ e ∙ distance_mirror v s));
    }
  where
    back : (t : ℤ) → distance (neg_ℤ v) t ≡ distance v (neg_ℤ t)
    back t = ap (distance (neg_ℤ v)) (sym (neg_ℤ-neg_ℤ t)) ∙ distance_mirror v (neg_ℤ t)

-- ---- the mirror law
pub steps_mirror : (v : ℤ) → steps (neg_ℤ v) ≡ neg_ℤ (steps v)
unfolding steps
steps_mirror (pos zero) = refl
steps_mirror (pos (suc n)) = refl
steps_mirror (negsuc n) = sym (neg_ℤ-neg_ℤ (pos (tenth (suc n))))

-- ---- `steps` is the one such number
nearest_above : (n : ℕ) → Nearest (pos n) (pos (tenth n))
nearest_above n = record { nearest = nearest; farther = farther }
  where
    s : ℕ
    s = tenth n

    nearest : (t : ℤ) → distance (pos n) (pos s) ≤ distance (pos n) t
    nearest (pos t) = omega (arith, ints)
    nearest (negsuc t) = omega (arith, ints)

    farther : (t : ℤ) → distance (pos n) t ≡ distance (pos n) (pos s) → nat_abs t ≤ s
    farther (pos t) e = omega (arith, ints)
    farther (negsuc t) e = omega (arith, ints)

pub steps_nearest : (v : ℤ) → Nearest v (steps v)
unfolding steps
steps_nearest (pos n) = nearest_above n
steps_nearest (negsuc n) = nearest_mirror (nearest_above (suc n))

-- 0 is nearer than any negative number
not_below : (n b : ℕ) → Nearest (pos n) (negsuc b) → ⊥
not_below n b h = omega (arith, ints, h.nearest (pos 0))

only_above : (n : ℕ) (s t : ℤ) → Nearest (pos n) s → Nearest (pos n) t → s ≡ t
only_above n (negsuc a) t h k = absurd (not_below n a h)
only_above n (pos a) (negsuc b) h k = absurd (not_below n b k)
only_above n (pos a) (pos b) h k =
    let same : distance (pos n) (pos b) ≡ distance (pos n) (pos a) = omega (arith, h.nearest (pos b), k.nearest (pos a)) in
    ap pos (omega (arith, h.farther (pos b) same, k.farther (pos a) (sym same)))

pub nearest_only : (v s t : ℤ) → Nearest v s → Nearest v t → s ≡ t
nearest_only (pos n) s t h k = only_above n s t h k
nearest_only (negsuc n) s t h k =
    sym (neg_ℤ-neg_ℤ s) ∙ ap neg_ℤ (only_above (suc n) (neg_ℤ s) (neg_ℤ t) (nearest_mirror h) (nearest_mirror k)) ∙ neg_ℤ-neg_ℤ t

-- ---- by computation
-- 5 gives 1, -5 gives -1, -15 gives -2; and just beside the halves
pub rows :
    (steps (pos 5) ≡ pos 1) × (steps (negsuc 4) ≡ negsuc 0) × (steps (negsuc 14) ≡ negsuc 1) × (steps (pos 15) ≡ pos 2)
    × (steps (pos 4) ≡ pos 0) × (steps (negsuc 3) ≡ pos 0) × (steps (pos 6) ≡ pos 1) × (steps (negsuc 5) ≡ negsuc 0)
unfolding steps
rows = (refl, refl, refl, refl, refl, refl, refl, refl)

-- -2³¹, whose negative is no 32-bit value, gives -214,748,365: it is 214,748,364.8 steps down, so no half
pub lowest : (signed (2 ^ 31) ≡ negsuc 2147483647) × (steps (signed (2 ^ 31)) ≡ negsuc 214748364) × (distance (negsuc 2147483647) (negsuc 214748364) ≡ 2)
unfolding signed steps
lowest = (refl, refl, refl)

-- ---- words
-- the word of -v makes the negative of the steps that the word of v makes, for every 32-bit word but that of -2³¹
pub word_mirror : (w : ℕ) → w < 2 ^ 32 → w ≢ 2 ^ 31 → steps (signed (bits_of (neg_ℤ (signed w)))) ≡ neg_ℤ (steps (signed w))
word_mirror w h k = ap steps (signed_bits (neg_ℤ (signed w)) small) ∙ steps_mirror (signed w)
  where
    small : mag (neg_ℤ (signed w)) < 2 ^ 31
    small =
        both (le_cases (2 ^ 31) w)
        (λ g. rw (signed_high w g.0 h) (omega (arith, k, g.0)))
        (λ g. rw (signed_low w g.0) (omega (arith, ints, g.0)))

-- what `step_of` answers for the two words, from its contract
pub step_of_mirror : (w : ℕ) {r r' : ℤ} → w < 2 ^ 32 → w ≢ 2 ^ 31 → r ≡ steps (signed w) → r' ≡ steps (signed (bits_of (neg_ℤ (signed w)))) → r' ≡ neg_ℤ r
step_of_mirror w h k e e' = e' ∙ word_mirror w h k ∙ ap neg_ℤ (sym e)

-- ---- the two ways of `step_of`: q is the tenth part that it makes
pub step_low : (w q : ℕ) → w < 2 ^ 31 → q ≡ tenth w → to_z w32 q ≡ steps (signed w)
unfolding steps
step_low w q h e = rw (signed_low w h, e) (to_z_pos w32 (tenth w) (omega arith))

pub step_high : (w q : ℕ) → 2 ^ 31 ≤ w → w < 2 ^ 32 → q ≡ tenth (4294967296 - w) → to_z w32 (of_z w32 (pos 0 -ℤ to_z w32 q)) ≡ steps (signed w)
unfolding steps
step_high w q h k e =
    let b : q < 2 ^ 31 = omega arith in
    let same : tenth (suc (4294967295 - w)) ≡ q = omega arith in
    rw (signed_high w h k, same) (omega (arith, ints))

-- ---- a word is at most 214,748,365 steps from 0
abs_neg : (n : ℕ) → abs (neg_ℤ (pos n)) ≤ n
abs_neg n = omega (arith, ints, abs_is (neg_ℤ (pos n)))

pub step_range : (w : ℕ) → w < 2 ^ 32 → abs (steps (signed w)) ≤ 214748365
unfolding steps
step_range w h =
    both (le_cases (2 ^ 31) w)
    (λ g. rw (signed_high w g.0 h) (omega (arith, abs_neg (tenth (suc (4294967295 - w))))))
    (λ g. rw (signed_low w g.0) (omega arith))
