-- Parts of a list of bytes, and the words that they are.
use Rattle.std.proofs.Common.{◌≡◌, refl, sym, ap, ◌∙◌, List, [], ◌∷◌, ◌++◌, ℕ, zero, suc, ◌+◌, ◌*◌, ◌/◌, ◌%◌, ◌≤◌, ◌<◌, length, get_or, take, drop, arith, add-one}
use Rattle.std.proofs.Math.Seq.{take-add, drop-cons}
use Rattle.std.proofs.lemmas.List.{drop-drop}
use Rattle.job.specs.Words.{word, word_bytes}
use Rattle.job.proofs.TwosComplement.{Bytes}
use Rattle.image.specs.Halves.{half, half_bytes}
use Rattle.image.specs.Bytes.{line_bytes}
use Rattle.image.proofs.Lines.{line_at}

-- n bytes from place s on
abbrev pub part : List ℕ → ℕ → ℕ → List ℕ
part l s n = take n (drop s l)

-- one behind the other
pub part_more : (l : List ℕ) (s m n : ℕ) → part l s (m + n) ≡ part l s m ++ part l (s + m) n
part_more l s m n = take-add m n (drop s l) ∙ ap (λ t. part l s m ++ take n t) (drop-drop m s l)

module _ (l : List ℕ) (bytes : Bytes l) where
  two : (s : ℕ) → s + 2 ≤ length l → part l s 2 ≡ get_or l s 0 ∷ get_or l (s + 1) 0 ∷ []
  two s h =
      ap (take 2) (drop-cons l s 0 (omega arith))
      ∙ ap (λ t. get_or l s 0 ∷ take 1 t) (drop-cons l (suc s) 0 (omega arith))
      ∙ ap (λ i. get_or l s 0 ∷ get_or l i 0 ∷ []) (sym (add-one s))

  pub part_half : (s : ℕ) → s + 2 ≤ length l → half_bytes (half l s) ≡ part l s 2
  unfolding half half_bytes
  part_half s h =
      let b₀ = bytes.byte s in
      let b₁ = bytes.byte (s + 1) in
      let e₀ : (get_or l s 0 + 256 * get_or l (s + 1) 0) % 256 ≡ get_or l s 0 = omega arith in
      let e₁ : (get_or l s 0 + 256 * get_or l (s + 1) 0) / 256 ≡ get_or l (s + 1) 0 = omega arith in
      (λ j. e₀ j ∷ e₁ j ∷ []) ∙ sym (two s h)

  four : (s : ℕ) → s + 4 ≤ length l → part l s 4 ≡ get_or l s 0 ∷ get_or l (s + 1) 0 ∷ get_or l (s + 2) 0 ∷ get_or l (s + 3) 0 ∷ []
  four s h =
      part_more l s 2 2
      ∙ (λ j. two s (omega arith) j ++ two (s + 2) (omega arith) j)
      ∙ ap (λ i. get_or l s 0 ∷ get_or l (s + 1) 0 ∷ get_or l (s + 2) 0 ∷ get_or l i 0 ∷ []) (omega arith)

  pub part_word : (s : ℕ) → s + 4 ≤ length l → word_bytes (word l s) ≡ part l s 4
  unfolding word word_bytes
  part_word s h =
      let b₀ = bytes.byte s in
      let b₁ = bytes.byte (s + 1) in
      let b₂ = bytes.byte (s + 2) in
      let b₃ = bytes.byte (s + 3) in
      let w = get_or l s 0 + 256 * get_or l (s + 1) 0 + 65536 * get_or l (s + 2) 0 + 16777216 * get_or l (s + 3) 0 in
      let e₀ : w % 256 ≡ get_or l s 0 = omega arith in
      let e₁ : w / 256 % 256 ≡ get_or l (s + 1) 0 = omega arith in
      let e₂ : w / 256 / 256 % 256 ≡ get_or l (s + 2) 0 = omega arith in
      let e₃ : w / 256 / 256 / 256 ≡ get_or l (s + 3) 0 = omega arith in
      (λ j. e₀ j ∷ e₁ j ∷ e₂ j ∷ e₃ j ∷ []) ∙ sym (four s h)

  -- a word, and what is behind it
  half_then : (s t n : ℕ) → t ≡ s + 2 → s + 2 ≤ length l → {r : List ℕ} → r ≡ part l t n → half_bytes (half l s) ++ r ≡ part l s (2 + n)
  half_then s t n e h f = (λ j. part_half s h j ++ f j) ∙ ap (λ i. part l s 2 ++ part l i n) e ∙ sym (part_more l s 2 n)

  pub part_line : (s : ℕ) → s + 12 ≤ length l → line_bytes (line_at l s) ≡ part l s 12
  unfolding line_bytes
  part_line s h =
      half_then s (s + 2) 10 refl (omega arith)
      (half_then (s + 2) (s + 4) 8 (omega arith) (omega arith)
      (half_then (s + 4) (s + 4 + 2) 6 refl (omega arith)
      (half_then (s + 4 + 2) (s + 8) 4 (omega arith) (omega arith) (part_word (s + 8) (omega arith)))))

-- Bytes that grow by one part after the other.
pub chunks : (l : List ℕ) (s w n : ℕ) (F : ℕ → List ℕ) → F 0 ≡ [] → ((i : ℕ) → i < n → F (i + 1) ≡ F i ++ part l (s + w * i) w)
    → F n ≡ part l s (w * n)
chunks l s w zero F e h = let none : 0 ≡ w * 0 = omega arith in e ∙ ap (part l s) none
chunks l s w (suc n) F e h =
    ap F (sym (add-one n))
    ∙ h n (omega arith)
    ∙ ap (λ t. t ++ part l (s + w * n) w) (chunks l s w n F e (λ i g. h i (omega arith)))
    ∙ sym (part_more l s (w * n) w)
    ∙ ap (part l s) (omega arith)
