-- A job has at most 4,091 picks, so that no job is refused for too many.
use mathlib.Core.Path.{◌≡◌, refl, sym, ap, ◌∙◌}
use mathlib.Core.Bool.{Bool, true, false, not, ◌&&◌, cond}
use mathlib.Core.List.{List}
use Prim.Native.Nat.{ℕ, ◌≤◌}
use native.Mathlib.Omega.{arith}
use lib.Dec.{eqb}
use lib.ListN.{length, get_or, length-map}
use borrow.Author.Tests.{le-ltb, eq-eqb}
use Rattle.algebra.specs.Cases.{both, eq_cases, never, not_true}
use Rattle.algebra.specs.Ranges.{all_true, up_from, up_from_length}
use Rattle.geometry.specs.Plane.{Point}
use Rattle.index_edge.specs.Edge.{Edge}
use Rattle.machine.specs.Answer.{Answer, refused, unfinished, delivered, refusal as first_refusal, too_many, answer, call}
use Rattle.machine.specs.Machine.{after, place}
use Rattle.machine.proofs.Accepted.{seven_or_nineteen}
use Rattle.job.specs.Decimal.{digits, decimal}
use Rattle.job.specs.Job.{point_count, pick_count, pick_at, refusal, accepted}
use Rattle.job.specs.Text.{summary, loop_lines, left_line, stopped_lines, refused_line}
use Rattle.job.proofs.Refusals.{accepted_job, up_to_thirteen}
use Rattle.tour.specs.Printed.{told, tangle_after, picks, board, printed}

module _ (job : List ℕ) where
  module _ (ok : refusal job 48 48 4096 ≡ 0) where
    -- they stand behind the header's 20 bytes, in at most 16,384
    pub few_picks : pick_count job ≤ 4091
    few_picks = let a = accepted_job job 48 48 4096 ok in omega (arith, a.pstart, a.pend, a.whole, a.short)

    pub not_many : too_many (picks job) ≡ false
    not_many = le-ltb 1000000 (length (picks job)) (omega (arith, few_picks, length-map (up_from 0 (pick_count job)) (pick_at job), up_from_length 0 (pick_count job)))

-- ---- what is printed
-- the text begins with `refused 19`, by its first, ninth and tenth letter
abbrev nineteen : List ℕ → Bool
nineteen l = eqb (get_or l 0 0) 114 && (eqb (get_or l 8 0) 49 && eqb (get_or l 9 0) 57)

other_number : (k : ℕ) → k ≤ 13 → nineteen (refused_line k) ≡ false
unfolding refused_line decimal digits
other_number k h = not_true (nineteen (refused_line k)) (all_true 14 (λ i. not (nineteen (refused_line i))) refl k (omega (arith, h)))

other_answer : (pt : ℕ → Point) (count : Edge → ℕ) (a : Answer) → ((k : ℕ) → a ≡ refused k → k ≤ 13) → nineteen (told pt count a) ≡ false
unfolding told stopped_lines left_line loop_lines summary
other_answer pt count (refused k) h = other_number k (h k refl)
other_answer pt count (unfinished ring moves left) h = refl
other_answer pt count (delivered ring moves cross) h = refl

-- a call with few enough picks is refused with 1 to 7
call_number : (n : ℕ) (pt : ℕ → Point) (r cs : List ℕ) → too_many cs ≡ false → (k : ℕ) → call n pt false r cs ≡ refused k → k ≤ 13
call_number n pt r cs few k is =
    let number : ℕ = first_refusal n pt false (too_many cs) r in
    let a : Answer = answer n pt r (after n pt place cs r) in
    both (eq_cases number 0)
    (λ z. absurd (answered (eqb (length (after n pt place cs r).now.store.dense) 0) _ _ _ _ _ _ (sym (ap (λ t. cond t a (refused number)) (eq-eqb number 0 z.0)) ∙ is)))
    (λ z.
    let same : number ≡ k = ap number_in (sym (ap (λ t. cond t a (refused number)) z.1) ∙ is) in
    both (seven_or_nineteen n pt false (too_many cs) r) (λ l. omega (arith, l, same)) (λ l. absurd (never (too_many cs) l.1 few)))
  where
    number_in : Answer → ℕ
    number_in (refused k) = k
    number_in a = 0

    answered : (b : Bool) (r₁ r₂ : List ℕ) (m c l j : ℕ) → ◌≡◌ {A = Answer} (cond b (delivered r₁ m c) (unfinished r₂ m l)) (refused j) → ⊥
    answered true r₁ r₂ m c l j h = let z : ◌≡◌ {A = ℕ} 0 1 = cc in omega arith
    answered false r₁ r₂ m c l j h = let z : ◌≡◌ {A = ℕ} 0 1 = cc in omega arith

line_of_nineteen : nineteen (refused_line 19) ≡ true
unfolding refused_line decimal digits
line_of_nineteen = refl

other_text : (job : List ℕ) → nineteen (printed job) ≡ false
unfolding printed accepted
other_text job =
    both (eq_cases (refusal job 48 48 4096) 0)
    (λ z. rw (eq-eqb (refusal job 48 48 4096) 0 z.0)
    (other_answer (board job) (tangle_after (point_count job) (board job) (picks job)) (call (point_count job) (board job) false (up_from 0 (point_count job)) (picks job))
    (call_number (point_count job) (board job) (up_from 0 (point_count job)) (picks job) (not_many job z.0))))
    (λ z. rw z.1 (other_number (refusal job 48 48 4096) (up_to_thirteen job 48 48 4096)))

-- No job is answered by the line `refused 19`.
pub never_nineteen : (job : List ℕ) → printed job ≡ refused_line 19 → ⊥
never_nineteen job is = never (nineteen (refused_line 19)) line_of_nineteen (sym (ap nineteen is) ∙ other_text job)
