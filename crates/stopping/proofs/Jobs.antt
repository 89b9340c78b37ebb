-- A job that is read: what is answered of its run over the buffers is what the definition says of the job's own lists.
use Rattle.std.specs.Prelude.{◌≡◌, ◌≢◌, refl, true, false, List, [], ◌∷◌, ◌++◌, ℕ, zero, suc, eqb, cond, length, take, ℤ, Err}
use Rattle.std.proofs.Common.{sym, ◌∙◌, ap}
use borrow.Author.Tests.{eq-eqb, ne_eqb}
use Rattle.algebra.specs.Ranges.{up_from}
use Rattle.refusal.specs.declared.Refusal.{Refusal}
use Rattle.refusal.specs.Number.{number_of}
use Rattle.geometry.specs.Lent.{coord, points}
use Rattle.geometry.specs.Answers.{refused, answered}
use Rattle.machine.specs.Answer.{refusal, too_many}
use Rattle.job.specs.Words.{bits_of, bytes_of}
use Rattle.job.specs.Encoded.{pairs}
use Rattle.job.specs.Job.{refusal as job_refusal, accepted}
use Rattle.job.proofs.ReadJobs.{WasRead, WasRefused}
use Rattle.resume.specs.Image.{Image}
use Rattle.image.specs.Halves.{halves_of}
use Rattle.image.specs.Bytes.{image_header, lines_bytes, frame_bytes, image_bytes}
use Rattle.tour.specs.Printed.{xs, ys}
use Rattle.tour.proofs.Jobs.{all_zero, read_x, read_y, read_picks, as_lent}
use Rattle.stopping.specs.Stopped.{left_by, stopped_run, stopped, Stopping}

-- ---- points that read alike
module _ (x y x' y' : List ℤ) (ex : (i : ℕ) → coord x' i ≡ coord x i) (ey : (i : ℕ) → coord y' i ≡ coord y i) where
  same_pairs : (n : ℕ) → pairs x' y' n ≡ pairs x y n
  unfolding pairs
  same_pairs zero = refl
  same_pairs (suc n) = λ t. same_pairs n t ++ (bits_of (ex n t) ∷ bits_of (ey n t) ∷ [])

  same_bytes : (n : ℕ) (m : Image) → image_bytes n x' y' m ≡ image_bytes n x y m
  unfolding image_bytes frame_bytes
  same_bytes n m = ap (λ t. (bytes_of (image_header n (length m.lines)) ++ (bytes_of t ++ halves_of m.ring)) ++ lines_bytes m.lines) (same_pairs n)

  same_run : (n : ℕ) (cs : List ℕ) → stopped_run n x' y' cs ≡ stopped_run n x y cs
  unfolding stopped_run
  same_run n cs =
      let pt : points x' y' ≡ points x y = λ t i. record { x = ex i t; y = ey i t } in
      (λ t.
      let k = refusal n (pt t) false (too_many cs) (up_from 0 n) in
      cond (eqb k 0) (answered (image_bytes n x' y' (left_by n (pt t) cs))) (refused k))
      ∙ (λ t.
      let k = refusal n (points x y) false (too_many cs) (up_from 0 n) in
      cond (eqb k 0) (answered (same_bytes n (left_by n (points x y) cs) t)) (refused k))

-- ---- a job
module _ (job : List ℕ) (x y : List ℤ) (q : List ℕ) (lx : length x ≡ 48) (ly : length y ≡ 48) (lq : length q ≡ 4096) where
  pub refused_job : (r : Refusal) {x' y' : List ℤ} {q' : List ℕ} → WasRefused job x y q (number_of r) x' y' q' → (out : List ℕ) → Stopping (stopped job) out (Err r) out
  unfolding stopped accepted
  refused_job r w out =
      let e : job_refusal job 48 48 4096 ≡ number_of r = sym (as_lent job x y q lx ly lq) ∙ w.number in
      let no : job_refusal job 48 48 4096 ≢ 0 = λ z. w.some (sym e ∙ z) in
      rw (ne_eqb (job_refusal job 48 48 4096) 0 no, e) (record { answers = refl; bytes = refl })

  pub read_job : all_zero x ≡ true → all_zero y ≡ true → {n m : ℕ} {x' y' : List ℤ} {q' : List ℕ} → WasRead job x y q n m x' y' q' → stopped_run n x' y' (take m q') ≡ stopped job
  unfolding stopped accepted
  read_job zx zy {n} {m} {x'} {y'} {q'} w =
      let e : job_refusal job 48 48 4096 ≡ 0 = sym (as_lent job x y q lx ly lq) ∙ w.number in
      rw (eq-eqb (job_refusal job 48 48 4096) 0 e)
      (same_run (xs job) (ys job) x' y' (read_x job x y q w zx) (read_y job x y q w zy) n (take m q')
      ∙ (λ t. stopped_run (sym w.points_are t) (xs job) (ys job) (read_picks job x y q w t)))
