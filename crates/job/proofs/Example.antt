-- The example of the job file's page by computation: its bytes, what is read, its feed and its text.
use mathlib.Core.Path.{◌≡◌, refl}
use mathlib.Core.List.{List, [], ◌∷◌, ◌++◌}
use Prim.Native.Nat.{ℕ}
use lib.IntN.{ℤ, pos}
use Rattle.integer_root.specs.Root.{root, root_to}
use Rattle.geometry.specs.Plane.{squared_distance}
use Rattle.geometry.specs.Lent.{points}
use Rattle.geometry.specs.Answers.{answered}
use Rattle.job.specs.Ascii.{ascii}
use Rattle.job.specs.Words.{word, signed, word_bytes, bytes_of, bits_of}
use Rattle.job.specs.Steps.{steps}
use Rattle.job.specs.Buffers.{over}
use Rattle.job.specs.Job.{x_at, y_at, pick_at, outside, shares_bytes, in_range, decide, refusal, accepted, answer}
use Rattle.job.specs.Encoded.{header, pairs, job_of}
use Rattle.job.specs.Decimal.{digits, decimal, integer}
use Rattle.job.specs.Feed.{feed_between, edge_feed}
use Rattle.job.specs.Text.{summary, point_line, point_lines, loop_lines}

-- (0,0), (100,100), (100,0), (0,100) and the pick 7, with the offsets 20 and 52 and the total 56
abbrev pub job : List ℕ
job =
    bytes_of
    (4 ∷ 20 ∷ 1 ∷ 52 ∷ 56
    ∷ 0 ∷ 0 ∷ 100 ∷ 100 ∷ 100 ∷ 0 ∷ 0 ∷ 100
    ∷ 7 ∷ [])

abbrev x : List ℤ
x = pos 0 ∷ pos 10 ∷ pos 10 ∷ pos 0 ∷ []

abbrev y : List ℤ
y = pos 0 ∷ pos 10 ∷ pos 0 ∷ pos 10 ∷ []

pub encoded : job_of (pos 0 ∷ pos 100 ∷ pos 100 ∷ pos 0 ∷ []) (pos 0 ∷ pos 100 ∷ pos 0 ∷ pos 100 ∷ []) (7 ∷ []) ≡ job
unfolding job_of header pairs bytes_of word_bytes bits_of
encoded = refl

pub read : answer job 4 4 1 ≡ answered (record { points = 4; picks = 1 })
unfolding answer accepted refusal decide outside shares_bytes in_range word signed steps bytes_of word_bytes
read = refl

pub read_x : over (pos 9 ∷ pos 9 ∷ pos 9 ∷ pos 9 ∷ pos 9 ∷ []) (x_at job) 4 ≡ x ++ (pos 9 ∷ [])
unfolding over word signed steps bytes_of word_bytes
read_x = refl

pub read_y : over (pos 9 ∷ pos 9 ∷ pos 9 ∷ pos 9 ∷ pos 9 ∷ []) (y_at job) 4 ≡ y ++ (pos 9 ∷ [])
unfolding over word signed steps bytes_of word_bytes
read_y = refl

pub read_pick : pick_at job 0 ≡ 7
unfolding word bytes_of word_bytes
read_pick = refl

pub printed : loop_lines (points x y) (0 ∷ 2 ∷ 1 ∷ 3 ∷ []) 1 1 ≡ ascii "ok 4 moves 1 cross 1 feed 40\n0 0\n10 0\n10 10\n0 10\n"
unfolding loop_lines summary point_lines point_line integer decimal digits edge_feed feed_between squared_distance root root_to
printed = refl
