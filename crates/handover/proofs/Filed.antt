-- The same through a file: the bytes that `save` writes of what a call left, taken up by `take_up`, whatever stands in the lent points past the n-th.
use Rattle.std.specs.Prelude.{◌≡◌, refl, Bool, false, cond, List, [], ◌++◌, ℕ, ◌≤◌, eqb, length, take, ℤ}
use Rattle.std.proofs.Common.{sym, ◌∙◌, ap, subst, arith}
use Rattle.geometry.specs.Plane.{Point}
use Rattle.geometry.specs.Lent.{points}
use Rattle.polygon.specs.Ring.{IsRing}
use Rattle.machine.specs.Board.{Board}
use Rattle.machine.specs.Machine.{State, Traced, begin, start, run_word, place}
use Rattle.machine.specs.Answer.{finish, answer_from, refusal, too_many, call}
use Rattle.machine.specs.Onward.{from, Ready}
use Rattle.machine.proofs.Accepted.{Accepted, accepted, place_picks}
use Rattle.machine.proofs.Ready.{begin_ready, run_ready}
use Rattle.untangle.specs.Running.{state_after}
use Rattle.resolve.specs.Ended.{last_ring}
use Rattle.job.proofs.RoundTrip.{Fit as Words32}
use Rattle.resume.specs.Image.{Image, take_up, resumed}
use Rattle.resume.specs.AgesAside.{Twin}
use Rattle.resume.specs.Check.{image_refusal, take_up_call}
use Rattle.resume.specs.Continued.{later}
use Rattle.resume.specs.Fit.{Fit}
use Rattle.resume.proofs.Calls.{image_accepted, later_few}
use Rattle.resume.proofs.Images.{fit_ready}
use Rattle.alike.specs.Same.{SameRuns}
use Rattle.alike.proofs.Lent.{same_below, points_below}
use Rattle.alike.proofs.TakenUp.{image_refusal_same, take_up_same, resumed_same}
use Rattle.image.specs.Bytes.{image_bytes}
use Rattle.image.specs.Reading.{read_image}
use Rattle.image.proofs.ReadBack.{Storable, ReadBack, read_back}
use Rattle.take_up.specs.TakenUp.{board_in, taking_refusal, taking_call}
use Rattle.handover.specs.Handed.{left_by, moves_of, EndsAlike}
use Rattle.handover.proofs.Handing.{alike, left_fit}

module _ (n : ℕ) (x y : List ℤ) where
  abbrev pt : ℕ → Point
  pt = points x y

  -- a board of exactly n points is the lent one
  abbrev qt : ℕ → Point
  qt = points (take n x) (take n y)

  same : SameRuns n pt qt
  same = same_below n pt qt (points_below n x y)

  -- ---- an image as it is read back
  module _ (m : Image) (s : Storable n x y m) where
    abbrev img : List ℕ
    img = image_bytes n x y m

    back : ReadBack n x y m img
    back = read_back s

    board : board_in img ≡ qt
    board = λ i. points (back.xs i) (back.ys i)

    pub taking_is : (short : Bool) (ds : List ℕ) → taking_call img short ds ≡ take_up_call n pt short m ds
    unfolding taking_call
    taking_is short ds =
        rw back.passes ((λ i. take_up_call (back.count i) (board i) short (back.image i) ds) ∙ take_up_same n pt qt same short m ds)

    pub refusal_is : (short many : Bool) → taking_refusal img short many ≡ image_refusal n pt short many m
    unfolding taking_refusal
    refusal_is short many =
        rw back.passes ((λ i. image_refusal (back.count i) (board i) short many (back.image i)) ∙ image_refusal_same n pt qt same short many m)

    -- the run that is taken up is the one over the lent points
    module _ (ring : IsRing n m.ring) (ds : List ℕ) (s' : State) (cs : List ℕ) (still : IsRing n (state_after n pt (take_up m) ds).ring) where
      same_run : run_word n qt place ds (resumed m) ≡ run_word n pt place ds (resumed m)
      same_run = resumed_same n pt qt same place ds m ring

      same_last : last_ring n qt (take_up m) ds ≡ last_ring n pt (take_up m) ds
      same_last =
          ap (λ (t : Traced). cond (eqb (length t.now.store.dense) 0) (finish n qt t.now.ring) t.now.ring) same_run
          ∙ ap (λ (l : List ℕ). cond (eqb (length (state_after n pt (take_up m) ds).store.dense) 0) l (state_after n pt (take_up m) ds).ring) (same.loops (state_after n pt (take_up m) ds).ring still)

      pub read_alike : EndsAlike n pt s' cs ds pt (take_up m) → EndsAlike n pt s' cs ds (board_in img) (take_up (read_image img))
      read_alike e =
          let over_qt : EndsAlike n pt s' cs ds qt (take_up m)
          = record {
            ring = e.ring ∙ sym same_last;
            records = subst (λ (t : Traced). Twin (state_after n pt s' (cs ++ ds)).store.dense t.now.store.dense) (sym same_run) e.records;
            moves = omega (arith, e.moves, ap (λ (t : Traced). length t.log) same_run);
          } in
          subst (λ (X : Type 0). X) (λ i. EndsAlike n pt s' cs ds (sym board i) (take_up (sym back.image i))) over_qt

  -- ---- an entry's run, stopped after the picks cs: the file of what it leaves
  module _ (wx : Words32 x) (wy : Words32 y) (lx : n ≤ length x) (ly : n ≤ length y) where
    -- of any state that a run can go on from
    module _ (brd : Board n pt) (s : State) (ready : Ready n pt s) (cs : List ℕ) where
      abbrev left : Image
      left = left_by n pt s cs

      fit : Fit n pt left
      fit = left_fit n pt brd s ready cs []

      pub storable : Storable n x y left
      storable = record { fit_x = wx; fit_y = wy; lx = lx; ly = ly; long = fit.ring.len }

      -- The file is taken up, where buffers are long enough and picks few enough.
      pub file_accepted : (short many : Bool) → refusal n pt short many left.ring ≡ 0 → taking_refusal (image_bytes n x y left) short many ≡ 0
      file_accepted short many h = refusal_is left storable short many ∙ (image_accepted n pt short many left).1 (h, fit)

      -- It ends as the unstopped run with all picks.
      pub file_alike : (ds : List ℕ) → EndsAlike n pt s cs ds (board_in (image_bytes n x y left)) (take_up (read_image (image_bytes n x y left)))
      file_alike ds =
          read_alike left storable fit.ring ds s cs (run_ready n pt brd (take_up left) (fit_ready n pt brd left fit) place place_picks ds).ring (alike n pt brd s ready cs ds).ends

      -- And it answers as that one, with the moves made before, and its own starting count.
      pub file_answers : (ds : List ℕ) (short : Bool) (k : ℕ) → refusal n pt short (too_many ds) left.ring ≡ 0
          → answer_from n pt k (run_word n pt place (cs ++ ds) (from s)) ≡ later (moves_of n pt s cs) k (taking_call (image_bytes n x y left) short ds)
      file_answers ds short k h =
          (alike n pt brd s ready cs ds).answers k (length left.lines)
          ∙ ap (later (moves_of n pt s cs) k) (sym (taking_is left storable short ds ∙ rw ((image_accepted n pt short (too_many ds) left).1 (h, fit)) refl))

    -- a ring and picks that no check refuses, with more picks that are few enough together
    module _ (short : Bool) (r cs ds : List ℕ) (few : too_many (cs ++ ds) ≡ false) (ok : refusal n pt short (too_many (cs ++ ds)) r ≡ 0) where
      abbrev s : State
      s = (begin n pt r).now

      acc : Accepted n pt short (too_many (cs ++ ds)) r
      acc = (accepted n pt short (too_many (cs ++ ds)) r).0 ok

      ready : Ready n pt s
      ready = begin_ready n pt acc.board r acc.ring

      passes : refusal n pt short (too_many ds) (left_by n pt s cs).ring ≡ 0
      passes =
          (accepted n pt short (too_many ds) (left_by n pt s cs).ring).1
          (record { few = acc.few; long = acc.long; few_picks = later_few cs ds few; range = acc.range; ring = (left_fit n pt acc.board s ready cs []).ring; board = acc.board })

      -- Q-12: the unstopped call with all picks answers as the call that takes up the file of what was left after the picks cs.
      pub stopped_call : call n pt short r (cs ++ ds) ≡ later (moves_of n pt s cs) (length (start n pt r).dense) (taking_call (image_bytes n x y (left_by n pt s cs)) short ds)
      stopped_call = rw ok (file_answers acc.board s ready cs ds short (length (start n pt r).dense) passes)

      -- which no check refuses
      pub stopped_accepted : taking_refusal (image_bytes n x y (left_by n pt s cs)) short (too_many ds) ≡ 0
      stopped_accepted = file_accepted acc.board s ready cs short (too_many ds) passes

      -- and leaves the same ring and the same pairs in dense order; the moves of both parts add up.
      pub stopped_alike : EndsAlike n pt s cs ds (board_in (image_bytes n x y (left_by n pt s cs))) (take_up (read_image (image_bytes n x y (left_by n pt s cs))))
      stopped_alike = file_alike acc.board s ready cs ds
