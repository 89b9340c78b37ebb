-- The image that a run saves, byte by byte: the header, the points, the ring and the records, with no gap.
use Rattle.std.specs.Prelude.{List, [], ◌∷◌, ◌++◌, map, ℕ, ◌+◌, ◌*◌, length, take, ℤ}
use Rattle.algebra.specs.Ranges.{up_from}
use Rattle.intersection_set.specs.Pool.{pair_of}
use Rattle.job.specs.Words.{word_bytes, bytes_of}
use Rattle.job.specs.Encoded.{pairs}
use Rattle.resume.specs.Image.{Line, line, Image}
use Rattle.image.specs.Halves.{half_bytes, halves_of}

-- the bytes of an image of n points and k records
abbrev pub image_length : ℕ → ℕ → ℕ
image_length n k = 28 + 10 * n + 12 * k

-- its seven words: the point count and offset, the ring offset, the record count and offset, the record width, the total length
unfoldable pub image_header : ℕ → ℕ → List ℕ
image_header n k = n ∷ 28 ∷ (28 + 8 * n) ∷ k ∷ (28 + 10 * n) ∷ 12 ∷ image_length n k ∷ []

-- a record: its four point numbers, the smaller edge first, and its age
unfoldable pub line_bytes : Line → List ℕ
line_bytes l = half_bytes l.e0.lo ++ (half_bytes l.e0.hi ++ (half_bytes l.e1.lo ++ (half_bytes l.e1.hi ++ word_bytes l.age)))

-- the records, in dense order
unfoldable pub lines_bytes : List Line → List ℕ
lines_bytes [] = []
lines_bytes (l ∷ ls) = line_bytes l ++ lines_bytes ls

-- all that stands before the records: the header of k records, the first n of the points x, y, in steps, and the ring
unfoldable pub frame_bytes : ℕ → List ℤ → List ℤ → List ℕ → ℕ → List ℕ
frame_bytes n x y ring k = bytes_of (image_header n k) ++ (bytes_of (pairs x y n) ++ halves_of ring)

-- the image of a run over the first n of the points
unfoldable pub image_bytes : ℕ → List ℤ → List ℤ → Image → List ℕ
image_bytes n x y m = frame_bytes n x y m.ring (length m.lines) ++ lines_bytes m.lines

-- a record by the word of its edges, as the pool has it, and its age
abbrev pub line_of_word : ℕ → ℕ → Line
line_of_word w age = line (pair_of w).e0 (pair_of w).e1 age

-- the first n entries of a ring, and k records by number
abbrev pub image_by : ℕ → List ℕ → ℕ → (ℕ → Line) → Image
image_by n ring k line = record { ring = take n ring; lines = map line (up_from 0 k) }
