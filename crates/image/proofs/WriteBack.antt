-- An image with no gaps is written again as it was read.
use Rattle.std.proofs.Common.{◌≡◌, refl, sym, ap, ◌∙◌, List, [], ◌∷◌, ◌++◌, ℕ, ◌+◌, ◌*◌, ◌≤◌, ◌<◌, length, ℤ, pos, arith, zero-add}
use Rattle.std.proofs.lemmas.List.{take_all}
use Rattle.job.specs.Words.{word, word_bytes, bytes_of, bits_of, signed}
use Rattle.job.specs.Encoded.{pairs}
use Rattle.geometry.specs.Lent.{coord}
use Rattle.job.proofs.Written.{table, length_table}
use Rattle.job.proofs.TwosComplement.{Bytes, word_range}
use Rattle.job.proofs.Encoding.{pairs_next}
use Rattle.job.proofs.Bytes.{bytes_append}
use Rattle.resume.specs.Image.{Line}
use Rattle.algebra.specs.Ranges.{table_at}
use Rattle.image.specs.Halves.{half, halves_of}
use Rattle.image.specs.Bytes.{image_length, image_header, lines_bytes, frame_bytes, image_bytes}
use Rattle.image.specs.Reading.{point_count, point_start, ring_start, record_count, record_start, record_width, total, image_fault, x_in, y_in, xs_in, ys_in, ring_entry, line_in, ring_in, lines_in, read_image}
use Rattle.image.proofs.Checking.{whole}
use Rattle.image.proofs.Signed.{bits_signed}
use Rattle.image.proofs.Halves.{table_more, halves_more}
use Rattle.image.proofs.Lines.{line_at, line_twelve, lines_next}
use Rattle.image.proofs.Parts.{part, part_more, part_half, part_word, part_line, chunks}

-- The areas in order from byte 28, with no gap, and ages.
pub record Gapless (img : List ℕ) : Type 0 where
  pub width : record_width img ≡ 12
  pub points : point_start img ≡ 28
  pub ring : ring_start img ≡ 28 + 8 * point_count img
  pub records : record_start img ≡ 28 + 10 * point_count img
  pub whole : total img ≡ image_length (point_count img) (record_count img)

-- the bytes of a table of words grow by one word
words_more : (f : ℕ → ℕ) (i : ℕ) → bytes_of (table f (i + 1)) ≡ bytes_of (table f i) ++ word_bytes (f i)
unfolding bytes_of word_bytes
words_more f i = ap bytes_of (table_more f i) ∙ bytes_append (table f i) (f i ∷ [])

-- ---- the parts
module _ (img : List ℕ) (bytes : Bytes img) where
  head_part : 28 ≤ length img → bytes_of (table (λ j. word img (4 * j)) 7) ≡ part img 0 28
  unfolding bytes_of
  head_part h =
      let f : ℕ → ℕ = λ j. word img (4 * j) in
      chunks img 0 4 7 (λ i. bytes_of (table f i)) refl
      (λ i g. words_more f i ∙ ap (λ t. bytes_of (table f i) ++ t) (part_word img bytes (4 * i) (omega arith) ∙ ap (λ q. part img q 4) (omega arith)))

  -- x, then y
  point_part : (q r : ℕ) → r ≡ q + 4 → q + 8 ≤ length img → word_bytes (word img q) ++ word_bytes (word img r) ≡ part img q 8
  point_part q r e h =
      (λ j. part_word img bytes q (omega arith) j ++ part_word img bytes r (omega arith) j)
      ∙ ap (λ t. part img q 4 ++ part img t 4) e
      ∙ sym (part_more img q 4 4)

  word_back : (z : ℤ) (q : ℕ) → z ≡ signed (word img q) → bits_of z ≡ word img q
  word_back z q e = ap bits_of e ∙ bits_signed (word img q) (word_range img q bytes)

  points_part : (s n : ℕ) (x y : List ℤ) → s + 8 * n ≤ length img
      → ((i : ℕ) → i < n → coord x i ≡ signed (word img (s + 8 * i))) → ((i : ℕ) → i < n → coord y i ≡ signed (word img (s + 4 + 8 * i)))
      → bytes_of (pairs x y n) ≡ part img s (8 * n)
  unfolding pairs bytes_of word_bytes
  points_part s n x y h e f =
      chunks img s 8 n (λ i. bytes_of (pairs x y i)) refl
      (λ i g.
      let a = word_back (coord x i) (s + 8 * i) (e i g) in
      let b = word_back (coord y i) (s + 4 + 8 * i) (f i g) in
      pairs_next x y i
      ∙ (λ j. bytes_of (pairs x y i) ++ (word_bytes (a j) ++ word_bytes (b j)))
      ∙ ap (λ t. bytes_of (pairs x y i) ++ t) (point_part (s + 8 * i) (s + 4 + 8 * i) (omega arith) (omega arith)))

  ring_part : (s n : ℕ) → s + 2 * n ≤ length img → halves_of (table (λ i. half img (s + 2 * i)) n) ≡ part img s (2 * n)
  unfolding halves_of
  ring_part s n h =
      let f : ℕ → ℕ = λ i. half img (s + 2 * i) in
      chunks img s 2 n (λ i. halves_of (table f i)) refl
      (λ i g. halves_more f i ∙ ap (λ t. halves_of (table f i) ++ t) (part_half img bytes (s + 2 * i) (omega arith)))

  lines_part : (s k : ℕ) → s + 12 * k ≤ length img → lines_bytes (table (λ i. line_at img (s + 12 * i)) k) ≡ part img s (12 * k)
  unfolding lines_bytes
  lines_part s k h =
      let f : ℕ → Line = λ i. line_at img (s + 12 * i) in
      chunks img s 12 k (λ i. lines_bytes (table f i)) refl
      (λ i g. lines_next f i ∙ ap (λ t. lines_bytes (table f i) ++ t) (part_line img bytes (s + 12 * i) (omega arith)))

-- ---- the whole
module _ (img : List ℕ) (bytes : Bytes img) (passes : image_fault img ≡ 0) (plain : Gapless img) where
  abbrev n : ℕ
  n = point_count img

  abbrev k : ℕ
  k = record_count img

  long : length img ≡ image_length n k
  long = sym (whole img passes) ∙ plain.whole

  head_is : bytes_of (image_header n k) ≡ part img 0 28
  unfolding image_header
  head_is =
      let p = plain.points in
      let r = plain.ring in
      let s = plain.records in
      let w = plain.width in
      let t = plain.whole in
      ap bytes_of (λ j. n ∷ sym p j ∷ sym r j ∷ k ∷ sym s j ∷ sym w j ∷ sym t j ∷ []) ∙ head_part img bytes (omega (arith, long))

  points_is : bytes_of (pairs (xs_in img) (ys_in img) n) ≡ part img 28 (8 * n)
  points_is =
      points_part img bytes 28 n (xs_in img) (ys_in img) (omega (arith, long))
      (λ i h. table_at (x_in img) (pos 0) 0 n i h ∙ (λ j. signed (word img (plain.points j + 8 * zero-add i j))))
      (λ i h. table_at (y_in img) (pos 0) 0 n i h ∙ (λ j. signed (word img (plain.points j + 4 + 8 * zero-add i j))))

  ring_is : halves_of (table (ring_entry img) n) ≡ part img (28 + 8 * n) (2 * n)
  ring_is =
      ap (λ s. halves_of (table (λ i. half img (s + 2 * i)) n)) plain.ring
      ∙ ring_part img bytes (28 + 8 * n) n (omega (arith, long))

  lines_is : lines_bytes (table (line_in img) k) ≡ part img (28 + 10 * n) (12 * k)
  lines_is =
      ap lines_bytes (λ j. table (λ i. (line_twelve img i plain.width ∙ ap (λ s. line_at img (s + 12 * i)) plain.records) j) k)
      ∙ lines_part img bytes (28 + 10 * n) k (omega (arith, long))

  -- writing what was read
  pub write_back : image_bytes n (xs_in img) (ys_in img) (read_image img) ≡ img
  unfolding image_bytes frame_bytes
  write_back =
      let count = length_table (line_in img) k in
      let areas : ℕ = 8 * n + 2 * n in
      let frame : frame_bytes n (xs_in img) (ys_in img) (ring_in img) (length (lines_in img)) ≡ part img 0 (28 + areas) =
      (λ j. bytes_of (image_header n (count j)) ++ (points_is j ++ ring_is j))
      ∙ (λ j. head_is j ++ sym (part_more img 28 (8 * n) (2 * n)) j)
      ∙ sym (part_more img 0 28 areas)
      in
      let start : 28 + 10 * n ≡ 0 + (28 + areas) = omega arith in
      (λ j. frame j ++ lines_is j)
      ∙ ap (λ s. part img 0 (28 + areas) ++ part img s (12 * k)) start
      ∙ sym (part_more img 0 (28 + areas) (12 * k))
      ∙ take_all (28 + areas + 12 * k) img (omega (arith, long))
