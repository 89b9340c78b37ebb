-- Jobs whose boards are mirror images of one another.
use Rattle.std.specs.Prelude.{◌≡◌, List, map, ℕ, ℤ, neg_ℤ, length}
use Rattle.algebra.specs.Ranges.{up_from}
use Rattle.job.specs.Job.{point_count, point_start, pick_count, pick_start, total, x_in, y_in}

-- the coordinates of a job's points, in micrometres
abbrev pub xs_in : List ℕ → List ℤ
xs_in job = map (x_in job) (up_from 0 (point_count job))

abbrev pub ys_in : List ℕ → List ℤ
ys_in job = map (y_in job) (up_from 0 (point_count job))

-- Mirrored about x = 0: of as many points each x is the negative, each y the same. Where the areas lie and what the picks are is each job's own.
pub record MirroredX (job job' : List ℕ) : Type 0 where
  pub xs : xs_in job' ≡ map neg_ℤ (xs_in job)
  pub ys : ys_in job' ≡ ys_in job

-- mirrored about y = 0
pub record MirroredY (job job' : List ℕ) : Type 0 where
  pub xs : xs_in job' ≡ xs_in job
  pub ys : ys_in job' ≡ map neg_ℤ (ys_in job)

-- as long, with the same five words at the start
pub record SameFrame (job job' : List ℕ) : Type 0 where
  pub long : length job' ≡ length job
  pub points : point_count job' ≡ point_count job
  pub start : point_start job' ≡ point_start job
  pub picks : pick_count job' ≡ pick_count job
  pub pick_start_lem : pick_start job' ≡ pick_start job
  pub whole : total job' ≡ total job
