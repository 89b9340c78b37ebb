-- An image by computation, byte by byte: the run over the points (0,0), (4,0), (2,0), (2,-3) that has made no move yet. The edge 1 2 lies on 0 1, and
-- 2 3 ends on it, so it has two records.
use mathlib.Core.Path.{◌≡◌, refl}
use mathlib.Core.List.{List, [], ◌∷◌}
use Prim.Native.Nat.{ℕ}
use lib.IntN.{ℤ, pos, negsuc}
use Rattle.job.specs.Words.{word, signed, word_bytes, bytes_of, bits_of}
use Rattle.job.specs.Encoded.{pairs}
use Rattle.index_edge.specs.Edge.{Edge}
use Rattle.resume.specs.Image.{line, Image}
use Rattle.image.specs.Halves.{half, half_bytes, halves_of}
use Rattle.image.specs.Bytes.{image_header, line_bytes, lines_bytes, frame_bytes, image_bytes}
use Rattle.image.specs.Reading.{outside, decide_image, image_fault, xs_in, ys_in, age_in, read_image}

abbrev e : ℕ → ℕ → Edge
e a b = record { lo = a; hi = b }

abbrev x : List ℤ
x = pos 0 ∷ pos 4 ∷ pos 2 ∷ pos 2 ∷ []

abbrev y : List ℤ
y = pos 0 ∷ pos 0 ∷ pos 0 ∷ negsuc 2 ∷ []

abbrev image : Image
image = record { ring = 0 ∷ 1 ∷ 2 ∷ 3 ∷ []; lines = line (e 0 1) (e 1 2) 0 ∷ line (e 0 1) (e 2 3) 1 ∷ [] }

abbrev bytes : List ℕ
bytes =
    4 ∷ 0 ∷ 0 ∷ 0 ∷ 28 ∷ 0 ∷ 0 ∷ 0 ∷ 60 ∷ 0 ∷ 0 ∷ 0 ∷ 2 ∷ 0 ∷ 0 ∷ 0 ∷ 68 ∷ 0 ∷ 0 ∷ 0 ∷ 12 ∷ 0 ∷ 0 ∷ 0
    ∷ 92 ∷ 0 ∷ 0 ∷ 0
    ∷ 0 ∷ 0 ∷ 0 ∷ 0 ∷ 0 ∷ 0 ∷ 0 ∷ 0 ∷ 4 ∷ 0 ∷ 0 ∷ 0 ∷ 0 ∷ 0 ∷ 0 ∷ 0
    ∷ 2 ∷ 0 ∷ 0 ∷ 0 ∷ 0 ∷ 0 ∷ 0 ∷ 0 ∷ 2 ∷ 0 ∷ 0 ∷ 0 ∷ 253 ∷ 255 ∷ 255 ∷ 255
    ∷ 0 ∷ 0 ∷ 1 ∷ 0 ∷ 2 ∷ 0 ∷ 3 ∷ 0
    ∷ 0 ∷ 0 ∷ 1 ∷ 0 ∷ 1 ∷ 0 ∷ 2 ∷ 0 ∷ 0 ∷ 0 ∷ 0 ∷ 0
    ∷ 0 ∷ 0 ∷ 1 ∷ 0 ∷ 2 ∷ 0 ∷ 3 ∷ 0 ∷ 1 ∷ 0 ∷ 0 ∷ 0 ∷ []

pub written : image_bytes 4 x y image ≡ bytes
unfolding image_bytes frame_bytes image_header pairs bits_of bytes_of word_bytes halves_of half_bytes lines_bytes line_bytes
written = refl

pub read : (image_fault bytes ≡ 0) × (read_image bytes ≡ image) × (xs_in bytes ≡ x) × (ys_in bytes ≡ y)
unfolding image_fault decide_image outside age_in half word signed
read = (refl, refl, refl, refl)

-- The same board without ages: the records stand before the ring, with a gap before each area, and are aged by their places.
abbrev bytes_8 : List ℕ
bytes_8 =
    4 ∷ 0 ∷ 0 ∷ 0 ∷ 29 ∷ 0 ∷ 0 ∷ 0 ∷ 81 ∷ 0 ∷ 0 ∷ 0 ∷ 2 ∷ 0 ∷ 0 ∷ 0 ∷ 63 ∷ 0 ∷ 0 ∷ 0 ∷ 8 ∷ 0 ∷ 0 ∷ 0
    ∷ 89 ∷ 0 ∷ 0 ∷ 0
    ∷ 7
    ∷ 0 ∷ 0 ∷ 0 ∷ 0 ∷ 0 ∷ 0 ∷ 0 ∷ 0 ∷ 4 ∷ 0 ∷ 0 ∷ 0 ∷ 0 ∷ 0 ∷ 0 ∷ 0
    ∷ 2 ∷ 0 ∷ 0 ∷ 0 ∷ 0 ∷ 0 ∷ 0 ∷ 0 ∷ 2 ∷ 0 ∷ 0 ∷ 0 ∷ 253 ∷ 255 ∷ 255 ∷ 255
    ∷ 7 ∷ 7
    ∷ 0 ∷ 0 ∷ 1 ∷ 0 ∷ 1 ∷ 0 ∷ 2 ∷ 0
    ∷ 0 ∷ 0 ∷ 1 ∷ 0 ∷ 2 ∷ 0 ∷ 3 ∷ 0
    ∷ 7 ∷ 7
    ∷ 0 ∷ 0 ∷ 1 ∷ 0 ∷ 2 ∷ 0 ∷ 3 ∷ 0 ∷ []

pub read_8 : (image_fault bytes_8 ≡ 0) × (read_image bytes_8 ≡ image) × (xs_in bytes_8 ≡ x) × (ys_in bytes_8 ≡ y)
unfolding image_fault decide_image outside age_in half word signed
read_8 = (refl, refl, refl, refl)

-- Check 20, in the order of its words: the length, the count of points and where they start, where the ring starts, the count of records, where they
-- start and how wide they are, and the total. What passes: nothing but a header; areas that overlap, or end with the image; an empty area at the end.
pub let_pass : (decide_image 28 0 28 28 0 28 8 28 ≡ 0) × (decide_image 60 4 28 28 4 28 8 60 ≡ 0) × (decide_image 60 4 28 52 2 36 12 60 ≡ 0)
    × (decide_image 60 0 60 60 0 60 12 60 ≡ 0)
unfolding decide_image outside
let_pass = (refl, refl, refl, refl)

-- What does not: 27 bytes; a total one less or one more; a width of 9 or 0; an area that starts at 27, also an empty one; one that ends a byte past
-- the total; an empty one behind it; sums that would wrap in 32 bits.
pub refused : (decide_image 27 0 28 28 0 28 8 27 ≡ 20) × (decide_image 60 0 28 28 0 28 8 59 ≡ 20) × (decide_image 60 0 28 28 0 28 8 61 ≡ 20)
    × (decide_image 60 0 28 28 0 28 9 60 ≡ 20) × (decide_image 60 0 28 28 0 28 0 60 ≡ 20) × (decide_image 60 1 27 28 0 28 8 60 ≡ 20)
    × (decide_image 60 0 28 27 0 28 8 60 ≡ 20) × (decide_image 60 0 28 28 1 27 8 60 ≡ 20) × (decide_image 60 4 29 28 0 28 8 60 ≡ 20)
    × (decide_image 60 4 28 53 0 28 8 60 ≡ 20) × (decide_image 60 0 28 28 2 37 12 60 ≡ 20) × (decide_image 60 0 28 28 0 61 12 60 ≡ 20)
    × (decide_image 60 536870912 28 28 0 28 8 60 ≡ 20) × (decide_image 60 4 4294967295 28 0 28 8 60 ≡ 20)
unfolding decide_image outside
refused = (refl, refl, refl, refl, refl, refl, refl, refl, refl, refl, refl, refl, refl, refl)
