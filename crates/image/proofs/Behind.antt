-- Words of bytes that stand behind one another: each is read where it stands.
use Rattle.std.proofs.Common.{◌≡◌, ap, ◌∙◌, List, ◌++◌, ℕ, ◌+◌, ◌*◌, ◌≤◌, length, get_or, get_or-append-add, arith}
use lib.ListN.{get_or-append}
use Rattle.job.specs.Words.{word}
use Rattle.image.specs.Halves.{half}
use Rattle.image.specs.Reading.{edge_in}

module _ (a b : List ℕ) where
  -- in the first part
  pub word_front : (i : ℕ) → i + 4 ≤ length a → word (a ++ b) i ≡ word a i
  unfolding word
  word_front i h =
      let e₀ = get_or-append a b 0 i (omega arith) in
      let e₁ = get_or-append a b 0 (i + 1) (omega arith) in
      let e₂ = get_or-append a b 0 (i + 2) (omega arith) in
      let e₃ = get_or-append a b 0 (i + 3) (omega arith) in
      λ j. e₀ j + 256 * e₁ j + 65536 * e₂ j + 16777216 * e₃ j

  pub half_front : (i : ℕ) → i + 2 ≤ length a → half (a ++ b) i ≡ half a i
  unfolding half
  half_front i h =
      let e₀ = get_or-append a b 0 i (omega arith) in
      let e₁ = get_or-append a b 0 (i + 1) (omega arith) in
      λ j. e₀ j + 256 * e₁ j

  -- behind it
  byte_past : (k i : ℕ) → k ≡ length a + i → get_or (a ++ b) k 0 ≡ get_or b i 0
  byte_past k i e = ap (λ j. get_or (a ++ b) j 0) e ∙ get_or-append-add a b i 0

  pub word_past : (k i : ℕ) → k ≡ length a + i → word (a ++ b) k ≡ word b i
  unfolding word
  word_past k i e =
      let e₀ = byte_past k i e in
      let e₁ = byte_past (k + 1) (i + 1) (omega arith) in
      let e₂ = byte_past (k + 2) (i + 2) (omega arith) in
      let e₃ = byte_past (k + 3) (i + 3) (omega arith) in
      λ j. e₀ j + 256 * e₁ j + 65536 * e₂ j + 16777216 * e₃ j

  pub half_past : (k i : ℕ) → k ≡ length a + i → half (a ++ b) k ≡ half b i
  unfolding half
  half_past k i e =
      let e₀ = byte_past k i e in
      let e₁ = byte_past (k + 1) (i + 1) (omega arith) in
      λ j. e₀ j + 256 * e₁ j

  pub edge_past : (k i : ℕ) → k ≡ length a + i → edge_in (a ++ b) k ≡ edge_in b i
  edge_past k i e =
      let lo = half_past k i e in
      let hi = half_past (k + 2) (i + 2) (omega arith) in
      λ j. record { lo = lo j; hi = hi j }
