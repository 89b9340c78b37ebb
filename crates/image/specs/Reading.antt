-- What an image says, whatever bytes it is made of; and check 20.
use Rattle.std.specs.Prelude.{◌≡◌, true, not, ◌||◌, cond, Bool, List, map, ℕ, ◌+◌, ◌*◌, ◌^◌, ◌≤◌, ◌<◌, length, ltb, eqb, ℤ}
use Rattle.algebra.specs.Ranges.{up_from}
use Rattle.index_edge.specs.Edge.{Edge}
use Rattle.job.specs.Words.{word, signed}
use Rattle.resume.specs.Image.{Line, line, Image}
use Rattle.image.specs.Halves.{half}
use Rattle.image.specs.declared.header.Header.{Header}

-- ---- the seven words at the start
abbrev pub point_count : List ℕ → ℕ
point_count img = word img 0

abbrev pub point_start : List ℕ → ℕ
point_start img = word img 4

abbrev pub ring_start : List ℕ → ℕ
ring_start img = word img 8

abbrev pub record_count : List ℕ → ℕ
record_count img = word img 12

abbrev pub record_start : List ℕ → ℕ
record_start img = word img 16

abbrev pub record_width : List ℕ → ℕ
record_width img = word img 20

abbrev pub total : List ℕ → ℕ
total img = word img 24

abbrev pub header_of : List ℕ → Header
header_of img =
    record {
      points = point_count img;
      point_start = point_start img;
      ring_start = ring_start img;
      records = record_count img;
      record_start = record_start img;
      width = record_width img;
      total = total img;
    }

-- ---- check 20
-- An area starts before byte 28 or ends past the total. So an empty area too starts from 28 to the total. Areas may overlap.
unfoldable pub outside : (start size total : ℕ) → Bool
outside start size total = ltb start 28 || ltb total (start + size)

-- a record takes 8 bytes, or 12 with its age
abbrev pub known_width : ℕ → Bool
known_width width = eqb width 8 || eqb width 12

-- The number of the check where it refuses, 20, or else 0. `len` is the image's length, then come its seven words.
unfoldable pub decide_image : (len points point_start ring_start records record_start width total : ℕ) → ℕ
decide_image len points point_start ring_start records record_start width total =
    cond (ltb len 28 || not (eqb total len)) 20
    (cond (not (known_width width)) 20
    (cond (outside point_start (8 * points) total || (outside ring_start (2 * points) total || outside record_start (width * records) total)) 20 0))

-- the same of an image's bytes
unfoldable pub image_fault : List ℕ → ℕ
image_fault img =
    decide_image (length img) (point_count img) (point_start img) (ring_start img) (record_count img) (record_start img) (record_width img) (total img)

-- What holds of the header of an image that passes: each area ends within the image.
pub record Within (img : List ℕ) (h : Header) : Type 0 where
  pub words : h ≡ header_of img
  pub points : h.point_start + 8 * h.points ≤ length img
  pub ring : h.ring_start + 2 * h.points ≤ length img
  pub records : h.record_start + h.width * h.records ≤ length img
  pub width : known_width h.width ≡ true
  pub many : h.records < 2 ^ 32

-- ---- the points, in steps: x then y, two signed words each
abbrev pub x_in : List ℕ → ℕ → ℤ
x_in img i = signed (word img (point_start img + 8 * i))

abbrev pub y_in : List ℕ → ℕ → ℤ
y_in img i = signed (word img (point_start img + 4 + 8 * i))

abbrev pub xs_in : List ℕ → List ℤ
xs_in img = map (x_in img) (up_from 0 (point_count img))

abbrev pub ys_in : List ℕ → List ℤ
ys_in img = map (y_in img) (up_from 0 (point_count img))

-- ---- the ring: a point number for each position
abbrev pub ring_entry : List ℕ → ℕ → ℕ
ring_entry img i = half img (ring_start img + 2 * i)

abbrev pub ring_in : List ℕ → List ℕ
ring_in img = map (ring_entry img) (up_from 0 (point_count img))

-- ---- the records
-- an edge as it stands at byte k: its two point numbers
abbrev pub edge_in : List ℕ → ℕ → Edge
edge_in img k = record { lo = half img k; hi = half img (k + 2) }

-- record i starts here
abbrev pub line_start : List ℕ → ℕ → ℕ
line_start img i = record_start img + record_width img * i

-- Its age is the word behind its edges; at width 8, where there is none, its dense place.
unfoldable pub age_in : List ℕ → ℕ → ℕ
age_in img i = cond (eqb (record_width img) 12) (word img (line_start img i + 8)) i

abbrev pub line_in : List ℕ → ℕ → Line
line_in img i = line (edge_in img (line_start img i)) (edge_in img (line_start img i + 4)) (age_in img i)

abbrev pub lines_in : List ℕ → List Line
lines_in img = map (line_in img) (up_from 0 (record_count img))

-- ---- the whole
abbrev pub read_image : List ℕ → Image
read_image img = record { ring = ring_in img; lines = lines_in img }
