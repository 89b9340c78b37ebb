-- Why exact halves go away from zero: a job mirrored about x = 0 or y = 0 is read as the mirrored points.
use mathlib.Core.Path.{◌≡◌, refl, sym, ap, ◌∙◌}
use mathlib.Core.List.{List, [], ◌∷◌, ◌++◌, map, map-map}
use Prim.Native.Nat.{ℕ, ◌+◌, ◌*◌}
use lib.IntN.{ℤ, neg_ℤ}
use lib.ListN.{length, take, drop, length-map}
use lib.Seq.{take-append_seam}
use Rattle.algebra.specs.Ranges.{up_from}
use Rattle.job.specs.Steps.{steps}
use Rattle.job.specs.Buffers.{over}
use Rattle.job.specs.Job.{point_count, x_in, y_in, decide, refusal}
use Rattle.job.specs.Encoded.{job_of}
use Rattle.job.specs.Mirrored.{xs_in, ys_in, MirroredX, MirroredY, SameFrame}
use Rattle.job.proofs.TwosComplement.{Bytes}
use Rattle.job.proofs.Written.{table, length_table}
use Rattle.job.proofs.Rounding.{steps_mirror}
use Rattle.job.proofs.Refusals.{no_three}
use Rattle.job.proofs.ReadJobs.{WasRead}
use Rattle.job.proofs.Encoding.{length_job}
use Rattle.job.proofs.RoundTrip.{Fit, Encodable, points_is, start_is, picks_is, pick_start_is, total_is, encoded_xs, encoded_ys}

-- ---- lists
mirror_all : (l : List ℤ) → map steps (map neg_ℤ l) ≡ map neg_ℤ (map steps l)
mirror_all [] = refl
mirror_all (v ∷ l) = λ i. steps_mirror v i ∷ mirror_all l i

-- the part of a buffer that was written over
take_over : (l : List ℤ) (f : ℕ → ℤ) (n : ℕ) → take n (over l (λ i. steps (f i)) n) ≡ map steps (table f n)
unfolding over
take_over l f n =
    ap (λ k. take k (table (λ i. steps (f i)) n ++ drop n l)) (sym (length_table (λ i. steps (f i)) n))
    ∙ take-append_seam (table (λ i. steps (f i)) n) (drop n l)
    ∙ sym (map-map steps f (up_from 0 n))

-- ---- what is read of two such jobs, from the reader's contract
module _ {job : List ℕ} {x y X Y : List ℤ} {q Q : List ℕ} {n m : ℕ} (a : WasRead job x y q n m X Y Q) where
  read_xs : take n X ≡ map steps (xs_in job)
  read_xs = ap (take n) a.xs ∙ take_over x (x_in job) n ∙ ap (λ k. map steps (table (x_in job) k)) (sym a.points_are)

  read_ys : take n Y ≡ map steps (ys_in job)
  read_ys = ap (take n) a.ys ∙ take_over y (y_in job) n ∙ ap (λ k. map steps (table (y_in job) k)) (sym a.points_are)

module _ {job job' : List ℕ} {x y X Y x₂ y₂ X' Y' : List ℤ} {q Q q₂ Q' : List ℕ} {n m n' m' : ℕ}
    (a : WasRead job x y q n m X Y Q) (b : WasRead job' x₂ y₂ q₂ n' m' X' Y' Q') where
  same_count : (f g : ℕ → ℤ) → table f (point_count job') ≡ table g (point_count job) → n' ≡ n
  same_count f g e =
      sym b.points_are ∙ sym (length_table f (point_count job')) ∙ ap length e ∙ length_table g (point_count job) ∙ a.points_are

  -- as many points, each x the negative, each y the same
  pub read_mirrored_x : MirroredX job job' → (n' ≡ n) × (take n X' ≡ map neg_ℤ (take n X)) × (take n Y' ≡ take n Y)
  read_mirrored_x h =
      let e : n' ≡ n = same_count (y_in job') (y_in job) h.ys in (
        e,
        ap (λ k. take k X') (sym e) ∙ read_xs b ∙ ap (map steps) h.xs ∙ mirror_all (xs_in job) ∙ ap (map neg_ℤ) (sym (read_xs a)),
        ap (λ k. take k Y') (sym e) ∙ read_ys b ∙ ap (map steps) h.ys ∙ sym (read_ys a),
      )

  pub read_mirrored_y : MirroredY job job' → (n' ≡ n) × (take n X' ≡ take n X) × (take n Y' ≡ map neg_ℤ (take n Y))
  read_mirrored_y h =
      let e : n' ≡ n = same_count (x_in job') (x_in job) h.xs in (
        e,
        ap (λ k. take k X') (sym e) ∙ read_xs b ∙ ap (map steps) h.xs ∙ sym (read_xs a),
        ap (λ k. take k Y') (sym e) ∙ read_ys b ∙ ap (map steps) h.ys ∙ mirror_all (ys_in job) ∙ ap (map neg_ℤ) (sym (read_ys a)),
      )

-- a job with the same length and words is read where the other is
pub same_refusal : {job job' : List ℕ} → Bytes job → Bytes job' → SameFrame job job' → (nx ny np : ℕ) → refusal job' nx ny np ≡ refusal job nx ny np
unfolding refusal
same_refusal {job} {job'} b b' f nx ny np =
    λ i. decide (f.long i) (f.points i) (f.start i) (f.picks i) (f.pick_start_lem i) (f.whole i) ((no_three job' b' ∙ sym (no_three job b)) i) nx ny np

-- ---- the encoder's jobs of a board and of its mirror image are such jobs
module _ {x y : List ℤ} {picks : List ℕ} (a : Encodable x y picks) where
  job_xs : xs_in (job_of x y picks) ≡ x
  job_xs = ap (table (x_in (job_of x y picks))) (points_is a) ∙ encoded_xs a

  job_ys : ys_in (job_of x y picks) ≡ y
  job_ys = ap (table (y_in (job_of x y picks))) (points_is a) ∙ encoded_ys a

module _ {x y x' y' : List ℤ} {picks : List ℕ} (a : Encodable x y picks) (b : Encodable x' y' picks) where
  same_frame : length x' ≡ length x → SameFrame (job_of x y picks) (job_of x' y' picks)
  same_frame e =
      record {
        long = length_job x' y' picks ∙ ap (λ k. 20 + 8 * k + 4 * length picks) e ∙ sym (length_job x y picks);
        points = points_is b ∙ e ∙ sym (points_is a);
        start = start_is b ∙ sym (start_is a);
        picks = picks_is b ∙ sym (picks_is a);
        pick_start_lem = pick_start_is b ∙ ap (λ k. 20 + 8 * k) e ∙ sym (pick_start_is a);
        whole = total_is b ∙ ap (λ k. 20 + 8 * k + 4 * length picks) e ∙ sym (total_is a);
      }

-- a module of its own: `job_xs` and `job_ys` are used of both jobs
module _ {x y : List ℤ} {picks : List ℕ} (a : Encodable x y picks) where
  pub encoded_mirrored_x : Fit (map neg_ℤ x) → MirroredX (job_of x y picks) (job_of (map neg_ℤ x) y picks) × SameFrame (job_of x y picks) (job_of (map neg_ℤ x) y picks)
  encoded_mirrored_x f =
      let e = length-map x neg_ℤ in
      let b : Encodable (map neg_ℤ x) y picks = record { fit_x = f; fit_y = a.fit_y; fit_picks = a.fit_picks; same = a.same ∙ sym e; few = rw e a.few; short = rw e a.short } in (
        record { xs = job_xs b ∙ ap (map neg_ℤ) (sym (job_xs a)); ys = job_ys b ∙ sym (job_ys a) },
        same_frame a b e,
      )

  pub encoded_mirrored_y : Fit (map neg_ℤ y) → MirroredY (job_of x y picks) (job_of x (map neg_ℤ y) picks) × SameFrame (job_of x y picks) (job_of x (map neg_ℤ y) picks)
  encoded_mirrored_y f =
      let b : Encodable x (map neg_ℤ y) picks = record { fit_x = a.fit_x; fit_y = f; fit_picks = a.fit_picks; same = length-map y neg_ℤ ∙ a.same; few = a.few; short = a.short } in (
        record { xs = job_xs b ∙ sym (job_xs a); ys = job_ys b ∙ ap (map neg_ℤ) (sym (job_ys a)) },
        same_frame a b refl,
      )
