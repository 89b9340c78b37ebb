-- The job file, and what the reader makes of it.
use Rattle.std.specs.Prelude.{◌≡◌, Bool, not, ◌&&◌, ◌||◌, cond, List, ℕ, ◌+◌, ◌*◌, ◌≤◌, ◌<◌, length, ltb, eqb, ℤ, Result}
use Rattle.algebra.specs.Ranges.{all_below}
use Rattle.geometry.specs.Plane.{near}
use Rattle.geometry.specs.Answers.{Answer, refused, answered, told}
use Rattle.job.specs.Words.{word, signed}
use Rattle.job.specs.Steps.{steps}
use Rattle.job.specs.Buffers.{over}
use Rattle.job.specs.declared.reader.Counts.{Counts}
use Rattle.job.specs.declared.reader.Header.{Header}
use Rattle.refusal.specs.declared.Refusal.{Refusal}

-- ---- the five words at the start
abbrev pub point_count : List ℕ → ℕ
point_count job = word job 0

abbrev pub point_start : List ℕ → ℕ
point_start job = word job 4

abbrev pub pick_count : List ℕ → ℕ
pick_count job = word job 8

abbrev pub pick_start : List ℕ → ℕ
pick_start job = word job 12

abbrev pub total : List ℕ → ℕ
total job = word job 16

abbrev pub header_of : List ℕ → Header
header_of job = record { points = point_count job; point_start = point_start job; picks = pick_count job; pick_start = pick_start job; total = total job }

-- ---- the entries
-- a point is x then y, in micrometres
abbrev pub x_in : List ℕ → ℕ → ℤ
x_in job i = signed (word job (point_start job + 8 * i))

abbrev pub y_in : List ℕ → ℕ → ℤ
y_in job i = signed (word job (point_start job + 4 + 8 * i))

-- the same in steps
abbrev pub x_at : List ℕ → ℕ → ℤ
x_at job i = steps (x_in job i)

abbrev pub y_at : List ℕ → ℕ → ℤ
y_at job i = steps (y_in job i)

-- a pick is one word
abbrev pub pick_at : List ℕ → ℕ → ℕ
pick_at job i = word job (pick_start job + 4 * i)

-- ---- the checks
-- An area starts before byte 20 or ends past the total. So an empty area too starts from 20 to the total.
unfoldable pub outside : (start size total : ℕ) → Bool
outside start size total = ltb start 20 || ltb total (start + size)

-- byte b belongs to the area of `size` bytes from `start` on; an empty area has none
abbrev pub BelongsTo : (b start size : ℕ) → Type 0
BelongsTo b start size = (start ≤ b) × (b < start + size)

-- Two areas share bytes: there is a byte that belongs to both.
abbrev pub SharesBytes : (start size start' size' : ℕ) → Type 0
SharesBytes start size start' size' = (b : ℕ) × BelongsTo b start size × BelongsTo b start' size'

-- The same as a test: each area starts before the other's end, and neither is empty.
unfoldable pub shares_bytes : (start size start' size' : ℕ) → Bool
shares_bytes start size start' size' = (ltb start' (start + size) && ltb start (start' + size')) && (ltb 0 size && ltb 0 size')

-- every coordinate is within the range, in steps
unfoldable pub in_range : List ℕ → Bool
in_range job = all_below (point_count job) (λ i. near (x_at job i)) && all_below (point_count job) (λ i. near (y_at job i))

-- The number of the first check that fails, in the reader's order; 0 if none does. `len` is the job's length, then come its five words, whether
-- its coordinates are within the range, and the places of the buffers for x, y and picks.
unfoldable pub decide : (len points point_start picks pick_start total : ℕ) (near : Bool) (nx ny np : ℕ) → ℕ
decide len points point_start picks pick_start total near nx ny np =
    cond (ltb len 20 || ltb 16384 len) 9
    (cond (not (eqb total len)) 10
    (cond (ltb 48 points) 11
    (cond (outside point_start (8 * points) total || outside pick_start (4 * picks) total) 12
    (cond (shares_bytes point_start (8 * points) pick_start (4 * picks)) 13
    (cond (ltb nx points || (ltb ny points || ltb np picks)) 2
    (cond (not near) 3 0))))))

-- the same of a job's bytes
unfoldable pub refusal : (job : List ℕ) (nx ny np : ℕ) → ℕ
refusal job nx ny np =
    decide (length job) (point_count job) (point_start job) (pick_count job) (pick_start job) (total job) (in_range job) nx ny np

-- ---- answer and buffers
unfoldable pub accepted : (job : List ℕ) (nx ny np : ℕ) → Bool
accepted job nx ny np = eqb (refusal job nx ny np) 0

unfoldable pub answer : (job : List ℕ) (nx ny np : ℕ) → Answer Counts
answer job nx ny np =
    cond (accepted job nx ny np) (answered (record { points = point_count job; picks = pick_count job })) (refused (refusal job nx ny np))

-- What the reader answers and leaves: steps and picks of an accepted job at the buffers' start, and nothing past them; else all as it was.
pub record Reading (job : List ℕ) (x y : List ℤ) (picks : List ℕ) (r : Result Counts Refusal) (x' y' : List ℤ) (picks' : List ℕ) : Type 0 where
  pub answers : told r ≡ answer job (length x) (length y) (length picks)
  pub xs : x' ≡ cond (accepted job (length x) (length y) (length picks)) (over x (x_at job) (point_count job)) x
  pub ys : y' ≡ cond (accepted job (length x) (length y) (length picks)) (over y (y_at job) (point_count job)) y
  pub ps : picks' ≡ cond (accepted job (length x) (length y) (length picks)) (over picks (pick_at job) (pick_count job)) picks
