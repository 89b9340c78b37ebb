-- A run that is stopped and taken up from what it leaves ends as the unstopped one: where records are left they are saved with their ring, and where none is
-- left the loop is delivered, and is delivered again.
use Rattle.std.specs.Prelude.{◌≡◌, refl, true, false, cond, List, [], ◌∷◌, ◌++◌, ℕ, ◌+◌, ◌-◌, ◌<◌, pos, eqb, length}
use Rattle.std.proofs.Common.{sym, ◌∙◌, ap, subst, arith}
use borrow.Author.Differences.{ints}
use Rattle.algebra.specs.Cases.{both, eq_cases}
use Rattle.geometry.specs.Plane.{Point}
use Rattle.geometry.proofs.Points.{lt_int_cases}
use Rattle.intersection_set.specs.Store.{Rec}
use Rattle.machine.specs.Board.{Board, turn_at}
use Rattle.machine.specs.Machine.{State, Traced, run_word, place}
use Rattle.machine.specs.Answer.{delivered, finish, least_to, answer_from}
use Rattle.machine.specs.Demand3.{Loop}
use Rattle.machine.specs.Onward.{from, Ready}
use Rattle.machine.proofs.Accepted.{place_picks}
use Rattle.machine.proofs.Corners.{ring_apart}
use Rattle.machine.proofs.Finish.{least_one, least_found}
use Rattle.machine.proofs.Moves.{run_longer}
use Rattle.machine.proofs.Ready.{ready_onward}
use Rattle.untangle.specs.Running.{state_after}
use Rattle.resolve.specs.Ended.{last_ring}
use Rattle.resume.specs.Image.{Image, image_of, saved, take_up, resumed}
use Rattle.resume.specs.AgesAside.{Twin}
use Rattle.resume.specs.Continued.{later, GoesOn}
use Rattle.resume.specs.Fit.{Fit}
use Rattle.resume.proofs.Checking.{savable_fit}
use Rattle.resume.proofs.Continuing.{place_unseen}
use Rattle.resume.proofs.Resuming.{parted_goes_on}
use Rattle.handover.specs.Handed.{left_by, EndsAlike}
use Rattle.handover.proofs.Left.{none_meets, left_savable}

-- a delivered loop is finished to itself
finish_again : (n : ℕ) (pt : ℕ → Point) (board : Board n pt) (r l : List ℕ) → Loop n pt r l → finish n pt l ≡ l
finish_again n pt board r l loop =
    let some : 0 < n = omega (arith, board.three) in
    let (i, least, turn) = loop.turns in
    let e : i ≡ least_to n pt l (n - 1) = least_one n pt l i (least_to n pt l (n - 1)) least (least_found n pt l (ring_apart n pt l loop.ring board.distinct) some) in
    let z = ap (turn_at n pt l) e in
    both (lt_int_cases (turn_at n pt l (least_to n pt l (n - 1))) (pos 0)) (λ h. absurd (omega (arith, ints, z, h.0, turn))) (λ h. rw h.1 refl)

no_records : (d : List Rec) → length d ≡ 0 → d ≡ []
no_records [] h = refl
no_records (x ∷ d) h = absurd (omega arith)

module _ (n : ℕ) (pt : ℕ → Point) (board : Board n pt) (s : State) (ready : Ready n pt s) (cs ds : List ℕ) where
  abbrev t : Traced
  t = run_word n pt place cs (from s)

  abbrev all : Traced
  all = run_word n pt place (cs ++ ds) (from s)

  abbrev up : State
  up = take_up (left_by n pt s cs)

  abbrev later_run : Traced
  later_run = run_word n pt place ds (from up)

  -- the same run, and its answer
  pub record Alike : Type 0 where
    pub ends : EndsAlike n pt s cs ds pt up
    pub answers : (k k' : ℕ) → answer_from n pt k all ≡ later (length t.log) k (answer_from n pt k' later_run)

  -- ---- records are left
  module _ (left : eqb (length t.now.store.dense) 0 ≡ false) where
    same_image : left_by n pt s cs ≡ saved t.now
    same_image = rw left refl

    goes : GoesOn n pt t.log all later_run
    goes = subst (λ (m : Image). GoesOn n pt t.log all (run_word n pt place ds (resumed m))) (sym same_image) (parted_goes_on n pt place place_unseen (from s) ready.numbered cs ds)

    alike_left : Alike
    alike_left = record {
      ends = record {
        ring = λ i. cond (eqb (goes.state.records.count i) 0) (finish n pt (goes.state.ring i)) (goes.state.ring i);
        records = goes.state.records;
        moves = omega (arith, goes.moves);
      };
      answers = goes.answers;
    }

  -- ---- none is left
  module _ (none : eqb (length t.now.store.dense) 0 ≡ true) (empty : t.now.store.dense ≡ []) where
    abbrev loop_of : List ℕ
    loop_of = finish n pt t.now.ring

    same_loop : left_by n pt s cs ≡ image_of loop_of []
    same_loop = (λ i. image_of (last_ring n pt s cs) (empty i)) ∙ rw none refl

    twice : finish n pt loop_of ≡ loop_of
    twice = finish_again n pt board t.now.ring loop_of ((ready_onward n pt board s ready place place_picks cs 0).loop (none_meets n pt board s ready cs empty))

    -- the run that is taken up makes no move, and neither does the unstopped one
    stands : later_run ≡ from (take_up (image_of loop_of []))
    stands = ap (λ (m : Image). run_word n pt place ds (resumed m)) same_loop ∙ run_longer n pt place [] ds (resumed (image_of loop_of [])) refl

    stood : all ≡ t
    stood = run_longer n pt place cs ds (from s) empty

    alike_none : Alike
    alike_none = record {
      ends = record {
        ring = ap (λ (u : Traced). cond (eqb (length u.now.store.dense) 0) (finish n pt u.now.ring) u.now.ring) stood ∙ rw none (sym twice) ∙ sym (ap (λ (u : Traced). cond (eqb (length u.now.store.dense) 0) (finish n pt u.now.ring) u.now.ring) stands);
        records = subst (λ (X : Type 0). X) (λ i. Twin ((sym stood ∙ refl) i).now.store.dense ((sym stands) i).now.store.dense) (subst (λ (d : List Rec). Twin d []) (sym empty) nothing);
        moves = omega (arith, ap (λ (u : Traced). length u.log) stood, ap (λ (u : Traced). length u.log) stands);
      };
      answers = λ k k'.
          ap (answer_from n pt k) stood ∙ rw none (λ i. delivered (sym twice i) (plus_none (length t.log) i) k) ∙ sym (ap (λ (u : Traced). later (length t.log) k (answer_from n pt k' u)) stands);
    }
      where
        nothing : Twin [] []
        nothing = record { count = refl; first = λ k h. absurd (omega arith); second = λ k h. absurd (omega arith); order = λ j k h l. absurd (omega arith) }

        plus_none : (m : ℕ) → m ≡ m + 0
        plus_none m = omega arith

  pub alike : Alike
  alike =
      both (eq_cases (length t.now.store.dense) 0)
      (λ z. alike_none z.1 (no_records t.now.store.dense z.0))
      (λ z. alike_left z.1)

  -- what is left can be taken up
  pub left_fit : Fit n pt (left_by n pt s cs)
  left_fit = savable_fit n pt board (last_ring n pt s cs) (state_after n pt s cs).store.dense (left_savable n pt board s ready cs)
