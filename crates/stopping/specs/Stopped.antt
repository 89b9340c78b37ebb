-- What `stop` answers and writes of a job: the image of what its run leaves, or a refusal.
use Rattle.std.specs.Prelude.{◌≡◌, false, cond, List, ℕ, eqb, length, ℤ, Result}
use Rattle.algebra.specs.Ranges.{up_from}
use Rattle.geometry.specs.Plane.{Point}
use Rattle.geometry.specs.Lent.{points}
use Rattle.geometry.specs.Answers.{Answer, refused, answered, told}
use Rattle.machine.specs.Machine.{begin}
use Rattle.machine.specs.Answer.{Answer as RunAnswer, refused as run_refused, unfinished, delivered, refusal, too_many}
use Rattle.refusal.specs.declared.Refusal.{Refusal}
use Rattle.resume.specs.Image.{Image}
use Rattle.image.specs.Bytes.{image_bytes}
use Rattle.job.specs.Job.{point_count, refusal as job_refusal, accepted}
use Rattle.job.specs.Buffers.{put}
use Rattle.handover.specs.Handed.{left_by as handed_over}
use Rattle.tour.specs.Printed.{xs, ys, picks}

-- how many records a run leaves, which has none where a loop is delivered; or its refusal
abbrev pub left_of : RunAnswer → Answer ℕ
left_of (run_refused k) = refused k
left_of (unfinished ring moves left) = answered left
left_of (delivered ring moves cross) = answered 0

-- What the picks leave of the run from the ring 0, 1, 2, ..: the ring, turned the right way round where no record is left, and the records.
unfoldable pub left_by : ℕ → (ℕ → Point) → List ℕ → Image
left_by n pt cs = handed_over n pt (begin n pt (up_from 0 n)).now cs

-- its bytes, or the number of the check that refuses
unfoldable pub stopped_run : ℕ → List ℤ → List ℤ → List ℕ → Answer (List ℕ)
stopped_run n x y cs =
    let k = refusal n (points x y) false (too_many cs) (up_from 0 n) in
    cond (eqb k 0) (answered (image_bytes n x y (left_by n (points x y) cs))) (refused k)

-- the same of a job, or the reader's refusal; the buffers have 48 places for points and 4,096 for picks, which a job never exceeds
unfoldable pub stopped : List ℕ → Answer (List ℕ)
stopped job = cond (accepted job 48 48 4096) (stopped_run (point_count job) (xs job) (ys job) (picks job)) (refused (job_refusal job 48 48 4096))

-- ---- answer and buffer
abbrev pub length_of : Answer (List ℕ) → Answer ℕ
length_of (refused k) = refused k
length_of (answered text) = answered (length text)

abbrev pub written : Answer (List ℕ) → List ℕ → List ℕ
written (refused k) out = out
written (answered text) out = put out 0 text

-- Where a is a text its length is answered, and it stands at the start of `out`, nothing written past it; else the refusal, and `out` is as it was.
pub record Stopping (a : Answer (List ℕ)) (out : List ℕ) (r : Result ℕ Refusal) (out' : List ℕ) : Type 0 where
  pub answers : told r ≡ length_of a
  pub bytes : out' ≡ written a out
