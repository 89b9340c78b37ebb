-- Check 20, by the words of an image.
use Rattle.std.proofs.Common.{◌≡◌, ◌∙◌, true, false, List, ℕ, ◌+◌, ◌*◌, ◌≤◌, ◌<◌, length, arith}
use borrow.Author.Tests.{le-ltb, eq-eqb}
use Rattle.job.specs.Words.{word}
use Rattle.image.specs.Reading.{total, outside, known_width, decide_image, image_fault}

-- too short for the seven words
pub too_short : (img : List ℕ) → length img < 28 → 20 ≡ image_fault img
unfolding image_fault decide_image
too_short img h = grind arith

-- the numbers are the image's words
pub of_words : (img : List ℕ) (p s r k t w e : ℕ) {v : ℕ}
    → p ≡ word img 0 → s ≡ word img 4 → r ≡ word img 8 → k ≡ word img 12 → t ≡ word img 16 → w ≡ word img 20 → e ≡ word img 24
    → v ≡ decide_image (length img) p s r k t w e → v ≡ image_fault img
unfolding image_fault
of_words img p s r k t w e h₁ h₂ h₃ h₄ h₅ h₆ h₇ g =
    g ∙ (λ i. decide_image (length img) (h₁ i) (h₂ i) (h₃ i) (h₄ i) (h₅ i) (h₆ i) (h₇ i))

inside : (s n e : ℕ) → (28 ≤ s) × (s + n ≤ e) → outside s n e ≡ false
unfolding outside
inside s n e h = grind arith

-- it passes, by its words
pub passes : (len p s r k t w e : ℕ) → 28 ≤ len → e ≡ len → known_width w ≡ true
    → (28 ≤ s) × (s + 8 * p ≤ e) → (28 ≤ r) × (r + 2 * p ≤ e) → (28 ≤ t) × (t + w * k ≤ e) → decide_image len p s r k t w e ≡ 0
unfolding decide_image
passes len p s r k t w e a b c f g h =
    simp (le-ltb len 28 a, eq-eqb e len b, c, inside s (8 * p) e f, inside r (2 * p) e g, inside t (w * k) e h)

-- the total word of an image that passes
pub whole : (img : List ℕ) → image_fault img ≡ 0 → total img ≡ length img
unfolding image_fault decide_image
whole img h = grind arith

-- there is no other number
pub twenty : (img : List ℕ) → 0 < image_fault img → image_fault img ≡ 20
unfolding image_fault decide_image
twenty img h = grind arith
