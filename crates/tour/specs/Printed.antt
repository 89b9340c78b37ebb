-- What is printed of a job: the reader's refusal, or what the plain machine answers to its points and picks.
use Rattle.std.specs.Prelude.{false, cond, List, map, ℕ, ℤ}
use Rattle.algebra.specs.Ranges.{up_from}
use Rattle.geometry.specs.Plane.{Point}
use Rattle.geometry.specs.Lent.{points}
use Rattle.index_edge.specs.Edge.{Edge}
use Rattle.intersection_set.specs.Lists.{tangle}
use Rattle.machine.specs.Machine.{after, place}
use Rattle.machine.specs.Answer.{Answer, refused, unfinished, delivered, call}
use Rattle.job.specs.Job.{point_count, pick_count, x_at, y_at, pick_at, refusal, accepted}
use Rattle.job.specs.Text.{loop_lines, stopped_lines, refused_line}

-- the text of an answer of the machine to the points by number; `count` says how many records name an edge then
unfoldable pub told : (ℕ → Point) → (Edge → ℕ) → Answer → List ℕ
told pt count (refused k) = refused_line k
told pt count (unfinished ring moves left) = stopped_lines count ring left
told pt count (delivered ring moves cross) = loop_lines pt ring moves cross

-- how many records name an edge after the picks
abbrev pub tangle_after : ℕ → (ℕ → Point) → List ℕ → Edge → ℕ
tangle_after n pt cs e = tangle e (after n pt place cs (up_from 0 n)).now.store

-- The text of a run from the ring 0, 1, 2, ..
abbrev pub run_text : ℕ → (ℕ → Point) → List ℕ → List ℕ
run_text n pt cs = told pt (tangle_after n pt cs) (call n pt false (up_from 0 n) cs)

-- the job's own lists
abbrev pub xs : List ℕ → List ℤ
xs job = map (x_at job) (up_from 0 (point_count job))

abbrev pub ys : List ℕ → List ℤ
ys job = map (y_at job) (up_from 0 (point_count job))

abbrev pub picks : List ℕ → List ℕ
picks job = map (pick_at job) (up_from 0 (pick_count job))

abbrev pub board : List ℕ → ℕ → Point
board job = points (xs job) (ys job)

-- The buffers have 48 places for points and 4,096 for picks, which a job never exceeds.
unfoldable pub printed : List ℕ → List ℕ
printed job =
    cond (accepted job 48 48 4096)
    (run_text (point_count job) (board job) (picks job))
    (refused_line (refusal job 48 48 4096))
