-- The buffers that a run leaves are saved: the call is not refused, and its image is that of the machine's ring and records.
use Rattle.std.specs.Prelude.{◌≡◌, refl, Bool, true, false, List, ℕ, ◌-◌, ◌*◌, ◌≤◌, ◌<◌, ltb, length, get_or, take, map, ℤ}
use Rattle.std.proofs.Common.{sym, ◌∙◌, ap, subst, arith}
use Rattle.std.proofs.Math.ListN.{get_or-map}
use Rattle.std.proofs.lemmas.List.{get_or-take}
use borrow.Author.Tests.{le-ltb, lt-ltb}
use Rattle.algebra.specs.Ranges.{true_all}
use Rattle.geometry.specs.Lent.{points}
use Rattle.intersection_set.specs.Store.{Rec, no_rec}
use Rattle.intersection_set.specs.Lists.{slot_of}
use Rattle.intersection_set.specs.Pool.{Buffers}
use Rattle.intersection_set.proofs.Slots.{slot_below}
use Rattle.machine.specs.Machine.{State, place}
use Rattle.machine.specs.Answer.{refusal}
use Rattle.machine.specs.Onward.{Ready}
use Rattle.machine.proofs.Accepted.{Accepted, accepted, place_picks}
use Rattle.machine.proofs.Ready.{run_ready}
use Rattle.untangle.specs.Running.{state_after}
use Rattle.resolve.specs.Ended.{Ended}
use Rattle.resume.specs.Check.{savable}
use Rattle.resume.specs.Fit.{Savable}
use Rattle.resume.proofs.Checking.{savable_decides}
use Rattle.image.specs.Bytes.{image_length}
use Rattle.save.specs.Saved.{records_of, slots_fit, too_short, saving_refusal}
use Rattle.save.proofs.Shown.{shown_records, front_records}
use Rattle.two_opt.specs.Entry.{Loan, front}
use Rattle.two_opt.specs.Lent.{Enough}
use Rattle.handover.proofs.Left.{left_savable}

module _ (n : ℕ) (x y : List ℤ) (s : State) (cs : List ℕ) (is : Loan) where
  abbrev d : List Rec
  d = (state_after n (points x y) s cs).store.dense

  abbrev b : Buffers
  b = is.records

  module _ (short many : Bool) (r : List ℕ) (a : Accepted n (points x y) short many r) (ready : Ready n (points x y) s)
      (ended : Ended n (points x y) s cs (front n is).ring (front n is).index (front n is).records) (enough : Enough n is) where
    after : Ready n (points x y) (state_after n (points x y) s cs)
    after = run_ready n (points x y) a.board s ready place place_picks cs

    pub left_few : length d ≤ n * (n - 1)
    left_few = omega (arith, after.room)

    -- each live dense entry is a slot
    left_slot : (j : ℕ) → j < length d → get_or b.dense j 0 < n * (n - 1)
    left_slot j h =
        let within : j < n * (n - 1) = omega (arith, h, left_few) in
        let e : get_or (map slot_of d) j 0 ≡ (get_or d j no_rec).slot = get_or-map slot_of d j no_rec in
        let f : get_or b.dense j 0 ≡ (get_or d j no_rec).slot
        = sym (get_or-take (n * (n - 1)) b.dense j 0 within) ∙ sym (get_or-take (length d) (take (n * (n - 1)) b.dense) j 0 h) ∙ ap (λ l. get_or l j 0) ended.shows.dense ∙ e in
        omega (arith, f, slot_below (state_after n (points x y) s cs).store after.numbered j h, after.room)

    -- what is read of them is the machine's record
    pub left_records : records_of (length d) b.dense b.ends b.ages ≡ d
    left_records =
        sym (front_records (n * (n - 1)) (length d) b.dense b.ends b.ages left_few (omega (arith, left_few, enough.in_dense)) left_slot)
        ∙ shown_records n (front n is).records (state_after n (points x y) s cs).store ended.shows

    long_enough : (out : List ℕ) → n ≤ length x → n ≤ length y → image_length n (length d) ≤ length out → too_short n x y is.ring (length d) b.dense b.ends b.ages out ≡ false
    unfolding too_short
    long_enough out lx ly room =
        rw (
          le-ltb (length x) n lx,
          le-ltb (length y) n ly,
          le-ltb (length is.ring) n enough.in_ring,
          le-ltb (length b.dense) (n * (n - 1)) enough.in_dense,
          le-ltb (length b.ends) (n * (n - 1)) enough.in_ends,
          le-ltb (length b.ages) (n * (n - 1)) enough.in_ages,
          le-ltb (n * (n - 1)) (length d) left_few,
          le-ltb (length out) (image_length n (length d)) room,
        )
        refl

    -- and no check refuses it
    pub left_accepted : (out : List ℕ) → n ≤ length x → n ≤ length y → image_length n (length d) ≤ length out
        → saving_refusal n x y is.ring (length d) b.dense b.ends b.ages out ≡ 0
    unfolding saving_refusal
    left_accepted out lx ly room =
        let fit : Savable n (points x y) (take n is.ring) d = subst (λ l. Savable n (points x y) l d) (sym ended.same_ring) (left_savable n (points x y) a.board s ready cs) in
        let none : refusal n (points x y) false false (take n is.ring) ≡ 0
        = (accepted n (points x y) false false (take n is.ring)).1 (record { few = a.few; long = refl; few_picks = refl; range = a.range; ring = fit.ring; board = a.board }) in
        let slots : slots_fit n (length d) b.dense ≡ true = true_all (length d) (λ j. ltb (get_or b.dense j 0) (n * (n - 1))) (λ j h. lt-ltb (get_or b.dense j 0) (n * (n - 1)) (left_slot j h)) in
        let can : savable n (points x y) (take n is.ring) d ≡ true = (savable_decides n (points x y) a.board (take n is.ring) d fit.ring).1 fit in
        rw (long_enough out lx ly room, none, slots, left_records, can) refl
