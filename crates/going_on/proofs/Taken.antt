-- A run that was taken up in buffers with room for 256 points: its answer can be told, and is told as the definition says.
use Rattle.std.specs.Prelude.{◌≡◌, ◌≢◌, refl, Bool, true, false, cond, List, ℕ, ◌-◌, ◌*◌, ◌≤◌, eqb, length, ℤ}
use Rattle.std.proofs.Common.{sym, ◌∙◌, ap, subst, arith}
use borrow.Author.Tests.{eq-eqb, ne_eqb}
use Rattle.algebra.specs.Cases.{both, eq_cases}
use Rattle.algebra.specs.Size.{mul_bound}
use Rattle.geometry.specs.Plane.{Point, near_point}
use Rattle.geometry.specs.Lent.{coord, points, Lent}
use Rattle.polygon.specs.Ring.{IsRing}
use Rattle.intersection_set.specs.Pool.{tangle_at}
use Rattle.machine.specs.Machine.{Traced, fresh, run_word, place}
use Rattle.machine.specs.Answer.{Answer, refused, unfinished, delivered, answer_from, too_many, in_range}
use Rattle.algebra.specs.Ranges.{true_all}
use Rattle.job.specs.Text.{refused_line}
use Rattle.machine.specs.Onward.{twice_of, Onward}
use Rattle.machine.proofs.Accepted.{Accepted, accepted}
use Rattle.untangle.specs.Running.{state_after}
use Rattle.checks.proofs.Checking.{same_refusal, lent_of}
use Rattle.two_opt.specs.Entry.{Loan, short_of}
use Rattle.job.specs.Feed.{Drawn}
use Rattle.job.specs.Tallied.{Tallied}
use Rattle.job.proofs.Feeds.{ring_drawn}
use Rattle.job.proofs.Written.{length_over}
use Rattle.resume.specs.Image.{Image, take_up, resumed}
use Rattle.resume.specs.Check.{fits, image_refusal}
use Rattle.resume.proofs.Calls.{image_accepted, image_call}
use Rattle.image.specs.Reading.{image_fault, point_count, x_in, y_in, xs_in, ys_in, read_image}
use Rattle.tour.specs.Printed.{told}
use Rattle.tour.proofs.Room.{Roomy, roomy}
use Rattle.tour.proofs.Jobs.{all_zero, zeros_behind}
use Rattle.tour.proofs.Delivered.{found_none, found_some}
use Rattle.tour.proofs.Tangles.{told_same, ring_tallied, counts_shown}
use Rattle.take_up.specs.TakenUp.{board_in, taking_refusal, taking_call, TakenUp}
use Rattle.going_on.specs.Printed.{tangle_on, text_on}

is_refused : Answer → ℕ
is_refused (refused k) = 1
is_refused a = 0

-- ---- two numbers of checks, one behind the other
none_of : (f r : ℕ) → cond (eqb f 0) r f ≡ 0 → (f ≡ 0) × (r ≡ 0)
none_of f r h =
    both (eq_cases f 0) (λ z. (z.0, sym (ap (λ b. cond b r f) z.1) ∙ h)) (λ z. absurd (z.0 (sym (ap (λ b. cond b r f) z.1) ∙ h)))

by_number : (f r : ℕ) (a : Answer) → cond (eqb f 0) (cond (eqb r 0) a (refused r)) (refused f) ≡ cond (eqb (cond (eqb f 0) r f) 0) a (refused (cond (eqb f 0) r f))
by_number f r a = both (eq_cases f 0) (λ z. rw z.1 refl) (λ z. rw z.1 (sym (ap (λ b. cond b a (refused f)) z.1)))

-- ---- the call
module _ (img : List ℕ) where
  abbrev pub n : ℕ
  n = point_count img

  abbrev pt : ℕ → Point
  pt = board_in img

  abbrev m : Image
  m = read_image img

  -- with more than 256 points the lengths do not matter
  module _ (s t : Bool) (same : n ≤ 256 → s ≡ t) where
    same_number : (many : Bool) → image_refusal n pt s many m ≡ image_refusal n pt t many m
    same_number many = ap (λ k. cond (eqb k 0) (cond (fits n pt m) 0 21) k) (same_refusal n pt s t many m.ring same)

    same_call : (cs : List ℕ) → taking_call img s cs ≡ taking_call img t cs
    unfolding taking_call
    same_call cs =
        let a : Answer = answer_from n pt (length m.lines) (run_word n pt place cs (resumed m)) in
        ap (λ k. cond (eqb (image_fault img) 0) (cond (eqb k 0) a (refused k)) (refused (image_fault img))) (same_number (too_many cs))

    same_taking : (many : Bool) → taking_refusal img s many ≡ taking_refusal img t many
    unfolding taking_refusal
    same_taking many = ap (λ k. cond (eqb (image_fault img) 0) k (image_fault img)) (same_number many)

  module _ (cs : List ℕ) where
    abbrev pub number : ℕ
    number = taking_refusal img false (too_many cs)

    abbrev end : Traced
    end = run_word n pt place cs (resumed m)

    call_is : taking_call img false cs ≡ cond (eqb number 0) (answer_from n pt (length m.lines) end) (refused number)
    unfolding taking_call taking_refusal
    call_is = by_number (image_fault img) (image_refusal n pt false (too_many cs) m) (answer_from n pt (length m.lines) end)

    call_refused : number ≢ 0 → taking_call img false cs ≡ refused number
    call_refused h = call_is ∙ ap (λ b. cond b (answer_from n pt (length m.lines) end) (refused number)) (ne_eqb number 0 h)

    module _ (z : number ≡ 0) where
      pub no_fault : (image_fault img ≡ 0) × (image_refusal n pt false (too_many cs) m ≡ 0)
      unfolding taking_refusal
      no_fault = none_of (image_fault img) (image_refusal n pt false (too_many cs) m) z

      ok : Accepted n pt false (too_many cs) m.ring
      ok = (accepted n pt false (too_many cs) m.ring).0 ((image_accepted n pt false (too_many cs) m).0 no_fault.1).0

      on : Onward n pt (twice_of (take_up m)) place cs (resumed m) (length m.lines)
      on = (image_call n pt false m cs no_fault.1).1

      pub call_taken : taking_call img false cs ≡ answer_from n pt (length m.lines) end
      call_taken = call_is ∙ ap (λ b. cond b (answer_from n pt (length m.lines) end) (refused number)) (eq-eqb number 0 z)

      loop_ring : {l : List ℕ} {j c : ℕ} → taking_call img false cs ≡ delivered l j c → IsRing n l
      loop_ring e =
          let (none, same) = found_none (fresh n pt end.now.ring) on.delivers on.withholds (sym call_taken ∙ e) in
          subst (IsRing n) (sym same) (on.loop none).ring

      left_ring : {l : List ℕ} {j k : ℕ} → taking_call img false cs ≡ unfinished l j k → IsRing n l
      left_ring e =
          let (same, left) = found_some (fresh n pt end.now.ring) on.delivers on.withholds (sym call_taken ∙ e) in
          subst (IsRing n) (sym same) on.ring

-- ---- what is left of buffers with room for 256 points
module _ (img cs : List ℕ) (x y : List ℤ) (was : Loan) (x' y' : List ℤ) (is : Loan) (a : Answer) (t : TakenUp img cs x y was x' y' is a) (lx : length x ≡ 256) (ly : length y ≡ 256)
    (zx : all_zero x ≡ true) (zy : all_zero y ≡ true) (room : Roomy 256 was) (many : length is.records.tangles ≡ 65280) where
  abbrev short : Bool
  short = short_of (n img) x y was

  long : n img ≤ 256 → short ≡ false
  long few = roomy 256 (n img) x y was (omega (arith, few, lx)) (omega (arith, few, ly)) few room

  answered : a ≡ taking_call img false cs
  answered = t.answers ∙ same_call img short false long cs

  -- a refusal is told by its number
  pub told_number : number img cs ≢ 0 → (a ≡ refused (number img cs)) × (refused_line (number img cs) ≡ text_on img cs)
  unfolding text_on told
  told_number h = (answered ∙ call_refused img cs h, sym (ap (told (pt img) (tangle_on img cs)) (call_refused img cs h)))

  module _ (z : number img cs ≡ 0) where
    passed : taking_refusal img short (too_many cs) ≡ 0
    passed = same_taking img short false long (too_many cs) ∙ z

    pub few_points : n img ≤ 256
    few_points = (ok img cs z).few

    same_points : points x' y' ≡ pt img
    same_points i k =
        let ex : coord x' k ≡ coord (xs_in img) k = ap (λ l. coord l k) (t.filled passed).0 ∙ zeros_behind x zx (x_in img) (n img) k in
        let ey : coord y' k ≡ coord (ys_in img) k = ap (λ l. coord l k) (t.filled passed).1 ∙ zeros_behind y zy (y_in img) (n img) k in
        record { x = ex i; y = ey i }

    lent : Lent (n img) x' y'
    lent =
        let fx : length x' ≡ length x = ap length (t.filled passed).0 ∙ length_over x (x_in img) (n img) (omega (arith, few_points, lx)) in
        let fy : length y' ≡ length y = ap length (t.filled passed).1 ∙ length_over y (y_in img) (n img) (omega (arith, few_points, ly)) in
        lent_of few_points (omega (arith, few_points, fx, lx)) (omega (arith, few_points, fy, ly))
        (ap (in_range (n img)) same_points ∙ true_all (n img) (λ i. near_point (pt img i)) (ok img cs z).range)

    pub loop_drawn : {l : List ℕ} {j c : ℕ} → a ≡ delivered l j c → Drawn x' y' l
    loop_drawn {l} e = ring_drawn (n img) x' y' l lent (loop_ring img cs z (sym answered ∙ e))

    two : 2 ≤ n img
    two = omega (arith, (ok img cs z).board.three)

    pub left_tallied : {l : List ℕ} {j k : ℕ} → a ≡ unfinished l j k → Tallied l is.records.tangles
    left_tallied e =
        let size : n img * (n img - 1) ≤ 256 * 255 = mul_bound (n img) (n img - 1) 256 255 few_points (omega (arith, few_points)) in
        ring_tallied (left_ring img cs z (sym answered ∙ e)) two is.records.tangles few_points (omega (arith, size, many))

    pub told_taken : told (points x' y') (λ e. tangle_at (n img) e is.records.tangles) a ≡ text_on img cs
    unfolding text_on
    told_taken =
        ap (λ p. told p (λ e. tangle_at (n img) e is.records.tangles) a) same_points
        ∙ told_same (pt img) (λ e. tangle_at (n img) e is.records.tangles) (tangle_on img cs) a
        (λ l j k e. counts_shown (left_ring img cs z (sym answered ∙ e)) two is.records.tangles (state_after (n img) (pt img) (take_up (m img)) cs).store (t.ended passed).shows.tangles)
        ∙ ap (told (pt img) (tangle_on img cs)) answered
