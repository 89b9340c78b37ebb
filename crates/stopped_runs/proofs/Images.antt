-- The image of a job's run: it has the job's points, it is taken up, and the run that goes on from it ends as the one with all picks.
use Rattle.std.specs.Prelude.{◌≡◌, refl, Bool, true, false, cond, List, [], ◌++◌, ℕ, ◌^◌, ◌<◌, eqb, length, ℤ, pos, negsuc}
use Rattle.std.proofs.Common.{sym, ◌∙◌, ap, subst, arith}
use Rattle.std.proofs.lemmas.List.{take_all, get_or_past, length-map}
use lib.Signed.{mag, le_z}
use borrow.Author.Tests.{eqb-true, leb-true}
use Rattle.algebra.specs.Cases.{both, le_cases, and_left, and_right}
use Rattle.algebra.specs.Ranges.{up_from, up_from_length}
use Rattle.geometry.specs.Plane.{Point, near}
use Rattle.geometry.specs.Lent.{coord, points}
use Rattle.geometry.specs.Answers.{Answer, refused, answered}
use Rattle.machine.specs.Machine.{State, start, begin}
use Rattle.machine.specs.Answer.{too_many, refusal, call}
use Rattle.machine.proofs.Accepted.{Accepted, accepted}
use Rattle.machine.proofs.Ready.{begin_ready}
use Rattle.job.specs.Job.{point_count, x_at, y_at, refusal as job_refusal, accepted as job_accepted}
use Rattle.job.proofs.RoundTrip.{Fit}
use Rattle.resume.specs.Image.{take_up}
use Rattle.resume.specs.Continued.{later}
use Rattle.image.specs.Bytes.{image_bytes}
use Rattle.image.specs.Reading.{point_count as points_in, xs_in, ys_in, read_image}
use Rattle.image.proofs.ReadBack.{ReadBack, read_back}
use Rattle.take_up.specs.TakenUp.{board_in, taking_refusal, taking_call}
use Rattle.handover.specs.Handed.{left_by, moves_of, EndsAlike}
use Rattle.handover.proofs.Filed.{storable, stopped_call, stopped_accepted, stopped_alike}
use Rattle.tour.specs.Printed.{xs, ys, picks, board}
use Rattle.stopping.specs.Stopped.{left_by as stopped_by, stopped_run, stopped}

-- ---- answers
text_of : Answer (List ℕ) → List ℕ
text_of (refused k) = []
text_of (answered t) = t

is_refused : Answer (List ℕ) → ℕ
is_refused (refused k) = 1
is_refused (answered t) = 0

-- what is answered with a text passed the check
passed : (b : Bool) (a : Answer (List ℕ)) (k : ℕ) (t : List ℕ) → cond b a (refused k) ≡ answered t → (b ≡ true) × (a ≡ answered t)
unfolding is_refused
passed true a k t h = (refl, h)
passed false a k t h = absurd (let z : ◌≡◌ {A = ℕ} 1 0 = ap is_refused h in omega arith)

-- ---- coordinates
near_fits : (z : ℤ) → near z ≡ true → mag z < 2 ^ 31
near_fits (pos m) h = omega (arith, leb-true m 1000000000 (and_right (le_z (negsuc 999999999) (pos m)) (le_z (pos m) (pos 1000000000)) h))
near_fits (negsuc m) h = omega (arith, leb-true m 999999999 (and_left (le_z (negsuc 999999999) (negsuc m)) (le_z (negsuc m) (pos 1000000000)) h))

fits : (n : ℕ) (x : List ℤ) → length x ≡ n → ((i : ℕ) → i < n → near (coord x i) ≡ true) → Fit x
fits n x long h =
    record {
      fit = λ i. both (le_cases n i) (λ p. (let e : coord x i ≡ pos 0 = get_or_past x i (pos 0) (omega (arith, long, p.0)) in rw e (omega arith))) (λ p. near_fits (coord x i) (h i p.0));
    }

-- ---- a job
module _ (job : List ℕ) (img : List ℕ) (e : stopped job ≡ answered img) where
  abbrev n : ℕ
  n = point_count job

  abbrev pt : ℕ → Point
  pt = board job

  abbrev cs : List ℕ
  cs = picks job

  abbrev s : State
  s = (begin n pt (up_from 0 n)).now

  ran : (refusal n pt false (too_many cs) (up_from 0 n) ≡ 0) × (image_bytes n (xs job) (ys job) (left_by n pt s cs) ≡ img)
  unfolding stopped stopped_run stopped_by text_of
  ran =
      let (read, run) = passed (job_accepted job 48 48 4096) (stopped_run n (xs job) (ys job) cs) (job_refusal job 48 48 4096) img e in
      let k = refusal n pt false (too_many cs) (up_from 0 n) in
      let (none, is) = passed (eqb k 0) (answered (image_bytes n (xs job) (ys job) (left_by n pt s cs))) k img run in
      (eqb-true k 0 none, ap text_of is)

  ok : Accepted n pt false (too_many cs) (up_from 0 n)
  ok = (accepted n pt false (too_many cs) (up_from 0 n)).0 ran.0

  long_x : length (xs job) ≡ n
  long_x = length-map (up_from 0 n) (x_at job) ∙ up_from_length 0 n

  long_y : length (ys job) ≡ n
  long_y = length-map (up_from 0 n) (y_at job) ∙ up_from_length 0 n

  fit_x : Fit (xs job)
  fit_x = fits n (xs job) long_x (λ i h. and_left (near (coord (xs job) i)) (near (coord (ys job) i)) (ok.range i h))

  fit_y : Fit (ys job)
  fit_y = fits n (ys job) long_y (λ i h. and_right (near (coord (xs job) i)) (near (coord (ys job) i)) (ok.range i h))

  -- with more picks, few enough together
  module _ (ds : List ℕ) (few : too_many (cs ++ ds) ≡ false) where
    all : refusal n pt false (too_many (cs ++ ds)) (up_from 0 n) ≡ 0
    all = ap (λ (b : Bool). refusal n pt false b (up_from 0 n)) few ∙ sym (ap (λ (b : Bool). refusal n pt false b (up_from 0 n)) ok.few_picks) ∙ ran.0

    pub answers : call n pt false (up_from 0 n) (cs ++ ds) ≡ later (moves_of n pt s cs) (length (start n pt (up_from 0 n)).dense) (taking_call img false ds)
    answers =
        subst (λ b. call n pt false (up_from 0 n) (cs ++ ds) ≡ later (moves_of n pt s cs) (length (start n pt (up_from 0 n)).dense) (taking_call b false ds)) ran.1
        (stopped_call n (xs job) (ys job) fit_x fit_y (omega (arith, long_x)) (omega (arith, long_y)) false (up_from 0 n) cs ds few all)

    pub taken : taking_refusal img false (too_many ds) ≡ 0
    taken =
        subst (λ b. taking_refusal b false (too_many ds) ≡ 0) ran.1
        (stopped_accepted n (xs job) (ys job) fit_x fit_y (omega (arith, long_x)) (omega (arith, long_y)) false (up_from 0 n) cs ds few all)

    pub ends : EndsAlike n pt s cs ds (board_in img) (take_up (read_image img))
    ends =
        subst (λ b. EndsAlike n pt s cs ds (board_in b) (take_up (read_image b))) ran.1
        (stopped_alike n (xs job) (ys job) fit_x fit_y (omega (arith, long_x)) (omega (arith, long_y)) false (up_from 0 n) cs ds few all)

  -- the image has the job's points
  read : ReadBack n (xs job) (ys job) (left_by n pt s cs) img
  read =
      subst (ReadBack n (xs job) (ys job) (left_by n pt s cs)) ran.1
      (read_back (storable n (xs job) (ys job) fit_x fit_y (omega (arith, long_x)) (omega (arith, long_y)) ok.board s (begin_ready n pt ok.board (up_from 0 n) ok.ring) cs))

  pub same_count : points_in img ≡ n
  same_count = read.count

  pub same_board : board_in img ≡ pt
  same_board =
      let ex : xs_in img ≡ xs job = read.xs ∙ take_all n (xs job) (omega (arith, long_x)) in
      let ey : ys_in img ≡ ys job = read.ys ∙ take_all n (ys job) (omega (arith, long_y)) in
      λ i. points (ex i) (ey i)
