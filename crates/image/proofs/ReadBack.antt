-- An image that is written is read back as it was.
use Rattle.std.proofs.Common.{◌≡◌, refl, sym, ap, ◌∙◌, List, ◌++◌, ℕ, ◌+◌, ◌*◌, ◌≤◌, ◌<◌, length, length-append, get_or, take, drop, ℤ, pos, arith}
use Rattle.std.proofs.Math.Seq.{length-take-le, take-append_seam}
use Rattle.std.proofs.lemmas.List.{get_or-take}
use Rattle.geometry.specs.Lent.{coord}
use Rattle.job.specs.Words.{word, signed, bytes_of}
use Rattle.job.specs.Buffers.{put}
use Rattle.job.specs.Encoded.{pairs}
use Rattle.job.proofs.Written.{table, table_is, put_is}
use Rattle.job.proofs.TwosComplement.{signed_bits}
use Rattle.job.proofs.Bytes.{length_bytes, word_bytes_lem}
use Rattle.job.proofs.Encoding.{length_pairs}
use Rattle.job.proofs.RoundTrip.{Fit, pairs_x, pairs_y}
use Rattle.resume.specs.Image.{Image}
use Rattle.image.specs.Halves.{half, halves_of}
use Rattle.image.specs.Bytes.{image_length, image_header, lines_bytes, frame_bytes, image_bytes}
use Rattle.image.specs.Reading.{point_count, point_start, ring_start, record_count, record_start, record_width, total, image_fault, x_in, y_in, xs_in, ys_in, ring_entry, line_in, read_image}
use Rattle.image.proofs.Halves.{halves_read}
use Rattle.image.proofs.Behind.{word_front, word_past, half_front, half_past}
use Rattle.image.proofs.Lines.{no_line, line_at, line_past, line_twelve, length_lines, lines_read}
use Rattle.image.proofs.Frames.{length_header, length_frame}
use Rattle.image.proofs.Checking.{of_words, passes}

-- The first n of the points x, y fit 32 bits, and the ring has as many entries.
pub record Storable (n : ℕ) (x y : List ℤ) (m : Image) : Type 0 where
  pub fit_x : Fit x
  pub fit_y : Fit y
  pub lx : n ≤ length x
  pub ly : n ≤ length y
  pub long : length m.ring ≡ n

-- ---- where the parts stand
module _ (n : ℕ) (x y : List ℤ) (m : Image) where
  abbrev k : ℕ
  k = length m.lines

  abbrev head : List ℕ
  head = bytes_of (image_header n k)

  abbrev points : List ℕ
  points = bytes_of (pairs x y n)

  abbrev ring : List ℕ
  ring = halves_of m.ring

  abbrev frame : List ℕ
  frame = frame_bytes n x y m.ring k

  abbrev lines : List ℕ
  lines = lines_bytes m.lines

  abbrev img : List ℕ
  img = image_bytes n x y m

  length_head : length head ≡ 28
  length_head = omega (arith, length_bytes (image_header n k), length_header n k)

  length_points : length points ≡ 8 * n
  length_points = omega (arith, length_bytes (pairs x y n), length_pairs x y n)

  pub length_image : length m.ring ≡ n → length img ≡ image_length n k
  unfolding image_bytes
  length_image e = simp length-append (omega (arith, length_frame n x y m.ring k, length_lines m.lines, e))

  head_word : (j : ℕ) → j < 7 → word img (4 * j) ≡ get_or (image_header n k) j 0
  unfolding image_bytes frame_bytes
  head_word j h =
      word_front frame lines (4 * j) (omega (arith, length_frame n x y m.ring k))
      ∙ word_front head (points ++ ring) (4 * j) (omega (arith, length_head))
      ∙ word_bytes_lem (image_header n k) j (omega (arith, length_header n k))

  point_word : (j q : ℕ) → j < 2 * n → q ≡ 28 + 4 * j → word img q ≡ get_or (pairs x y n) j 0
  unfolding image_bytes frame_bytes
  point_word j q h e =
      word_front frame lines q (omega (arith, length_frame n x y m.ring k))
      ∙ word_past head (points ++ ring) q (4 * j) (omega (arith, length_head))
      ∙ word_front points ring (4 * j) (omega (arith, length_points))
      ∙ word_bytes_lem (pairs x y n) j (omega (arith, length_pairs x y n))

  ring_half : (i q : ℕ) → i < length m.ring → q ≡ 28 + 8 * n + 2 * i → half img q ≡ get_or m.ring i 0
  unfolding image_bytes frame_bytes
  ring_half i q h e =
      half_front frame lines q (omega (arith, length_frame n x y m.ring k))
      ∙ half_past head (points ++ ring) q (8 * n + 2 * i) (omega (arith, length_head))
      ∙ half_past points ring (8 * n + 2 * i) (2 * i) (omega (arith, length_points))
      ∙ halves_read m.ring i h

  line_there : (i q : ℕ) → length m.ring ≡ n → i < k → q ≡ 28 + 10 * n + 12 * i → line_at img q ≡ get_or m.lines i no_line
  unfolding image_bytes
  line_there i q l h e = line_past frame lines q (12 * i) (omega (arith, length_frame n x y m.ring k)) ∙ lines_read m.lines i h

-- ---- what is read
-- What the reader finds in the image.
pub record ReadBack (n : ℕ) (x y : List ℤ) (m : Image) (img : List ℕ) : Type 0 where
  pub passes : image_fault img ≡ 0
  pub width : record_width img ≡ 12
  pub count : point_count img ≡ n
  pub xs : xs_in img ≡ take n x
  pub ys : ys_in img ≡ take n y
  pub image : read_image img ≡ m

module _ {n : ℕ} {x y : List ℤ} {m : Image} (s : Storable n x y m) where
  abbrev k' : ℕ
  k' = length m.lines

  abbrev img' : List ℕ
  img' = image_bytes n x y m

  pub points_is : point_count img' ≡ n
  unfolding image_header
  points_is = head_word n x y m 0 (omega arith)

  pub point_start_is : point_start img' ≡ 28
  unfolding image_header
  point_start_is = head_word n x y m 1 (omega arith)

  pub ring_start_is : ring_start img' ≡ 28 + 8 * n
  unfolding image_header
  ring_start_is = head_word n x y m 2 (omega arith)

  pub records_is : record_count img' ≡ k'
  unfolding image_header
  records_is = head_word n x y m 3 (omega arith)

  pub record_start_is : record_start img' ≡ 28 + 10 * n
  unfolding image_header
  record_start_is = head_word n x y m 4 (omega arith)

  pub width_is : record_width img' ≡ 12
  unfolding image_header
  width_is = head_word n x y m 5 (omega arith)

  pub total_is : total img' ≡ image_length n k'
  unfolding image_header
  total_is = head_word n x y m 6 (omega arith)

  passes_is : image_fault img' ≡ 0
  passes_is =
      let long = length_image n x y m s.long in
      sym
      (of_words img' n 28 (28 + 8 * n) k' (28 + 10 * n) 12 (image_length n k')
      (sym points_is) (sym point_start_is) (sym ring_start_is) (sym records_is) (sym record_start_is) (sym width_is) (sym total_is)
      (sym
      (passes (length img') n 28 (28 + 8 * n) k' (28 + 10 * n) 12 (image_length n k') (omega (arith, long)) (sym long) refl
      (omega arith, omega arith) (omega arith, omega arith) (omega arith, omega arith))))

  x_is : (i : ℕ) → i < n → x_in img' i ≡ get_or (take n x) i (pos 0)
  x_is i h =
      ap signed (point_word n x y m (2 * i) (point_start img' + 8 * i) (omega arith) (omega (arith, point_start_is)) ∙ pairs_x x y n i h)
      ∙ signed_bits (coord x i) (s.fit_x.fit i)
      ∙ sym (get_or-take n x i (pos 0) h)

  y_is : (i : ℕ) → i < n → y_in img' i ≡ get_or (take n y) i (pos 0)
  y_is i h =
      ap signed (point_word n x y m (2 * i + 1) (point_start img' + 4 + 8 * i) (omega arith) (omega (arith, point_start_is)) ∙ pairs_y x y n i h)
      ∙ signed_bits (coord y i) (s.fit_y.fit i)
      ∙ sym (get_or-take n y i (pos 0) h)

  xs_is : xs_in img' ≡ take n x
  xs_is = ap (table (x_in img')) points_is ∙ table_is (x_in img') (take n x) (pos 0) n (length-take-le n x s.lx) x_is

  ys_is : ys_in img' ≡ take n y
  ys_is = ap (table (y_in img')) points_is ∙ table_is (y_in img') (take n y) (pos 0) n (length-take-le n y s.ly) y_is

  ring_is : table (ring_entry img') (point_count img') ≡ m.ring
  ring_is =
      ap (table (ring_entry img')) points_is
      ∙ table_is (ring_entry img') m.ring 0 n s.long
      (λ i h. ring_half n x y m i (ring_start img' + 2 * i) (omega (arith, s.long)) (omega (arith, ring_start_is)))

  lines_is : table (line_in img') (record_count img') ≡ m.lines
  lines_is =
      ap (table (line_in img')) records_is
      ∙ table_is (line_in img') m.lines no_line k' refl
      (λ i h. line_twelve img' i width_is ∙ line_there n x y m i (record_start img' + 12 * i) s.long h (omega (arith, record_start_is)))

  -- reading what was written
  pub read_back : ReadBack n x y m img'
  read_back =
      record {
        passes = passes_is;
        width = width_is;
        count = points_is;
        xs = xs_is;
        ys = ys_is;
        image = λ j. record { ring = ring_is j; lines = lines_is j };
      }

-- An image that is written to the start of a buffer stands there.
pub image_at_start : (out image : List ℕ) → length image ≤ length out → take (length image) (put out 0 image) ≡ image
image_at_start out image h =
    let room : 0 + length image ≤ length out = omega arith in
    rw (put_is out 0 image room) (take-append_seam image (drop (0 + length image) out))
