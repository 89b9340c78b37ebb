-- A run taken up goes on as the unstopped one; and what holds of every run taken up from a fit image.
use mathlib.Core.Path.{refl, sym, subst}
use mathlib.Core.Bool.{Bool, true, false, cond}
use mathlib.Core.List.{List, [], ◌∷◌, ◌++◌}
use Prim.Native.Nat.{ℕ, ◌-◌, ◌*◌, ◌≤◌}
use native.Mathlib.Omega.{arith}
use lib.Dec.{eqb}
use lib.ListN.{length, length-map}
use Rattle.geometry.specs.Plane.{Point}
use Rattle.polygon.specs.Edges.{edges}
use Rattle.polygon.specs.Ring.{IsRing}
use Rattle.polygon.specs.Change.{Plan}
use Rattle.intersection_set.specs.Store.{Store, empty}
use Rattle.intersection_set.proofs.Slots.{Numbered, numbered_kept, numbered_empty}
use Rattle.machine.specs.Board.{Board}
use Rattle.machine.specs.Machine.{State, Traced, begin, carried, plan_of, step, run_word, after, place}
use Rattle.machine.specs.Demand3.{Picks}
use Rattle.machine.specs.Onward.{twice_of, Onward, Names, Ready}
use Rattle.machine.proofs.Kept.{pairs_kept, carry_kept}
use Rattle.machine.proofs.Moves.{run_append}
use Rattle.machine.proofs.Room.{Roomy}
use Rattle.machine.proofs.Moments.{Moment}
use Rattle.machine.proofs.Pushes.{run_fits}
use Rattle.machine.proofs.Ready.{ready_whole, begin_ready, run_ready, ready_onward, ready_roomy}
use Rattle.resume.specs.Image.{Line, Image, line_of, renumbered, saved, take_up, resumed, slotted, placed}
use Rattle.resume.specs.Continued.{GoesOn}
use Rattle.resume.specs.Fit.{Fit}
use Rattle.resume.proofs.Continuing.{AgesUnseen, place_unseen, run_goes_on}
use Rattle.resume.proofs.Renumbering.{saved_same, numbered_old, slotted_length}
use Rattle.resume.proofs.BackAgain.{count_pushes}
use Rattle.resume.proofs.Images.{fit_ready, saved_fit, placed_fit}

module _ (n : ℕ) (pt : ℕ → Point) where
  -- ---- ages and slots are numbered after every list of picks
  module _ (w : ℕ → State → ℕ) where
    step_numbered : (c : ℕ) (t : Traced) → Numbered t.now.store → Numbered (step n pt w c t).now.store
    step_numbered c t num = go (eqb (length t.now.store.dense) 0)
      where
        m : Plan
        m = plan_of n pt t.now (w c t.now)

        go : (b : Bool) → Numbered (cond b t (carried n pt m t)).now.store
        go true = num
        go false = carry_kept Numbered numbered_kept pt n m t.now num

    pub run_numbered : (cs : List ℕ) (t : Traced) → Numbered t.now.store → Numbered (run_word n pt w cs t).now.store
    run_numbered [] t num = num
    run_numbered (c ∷ cs) t num = run_numbered cs (step n pt w c t) (step_numbered c t num)

    -- ---- saved and taken up
    -- Any run t, saved: the run taken up goes on as t does with the remaining picks, for every choice that looks at no age and no slot.
    pub saved_goes_on : AgesUnseen w → (t : Traced) → Numbered t.now.store → (ds : List ℕ)
        → GoesOn n pt t.log (run_word n pt w ds t) (run_word n pt w ds (resumed (saved t.now)))
    saved_goes_on unseen t num ds = run_goes_on n pt w unseen t (resumed (saved t.now)) (saved_same t.now (numbered_old t.now.store num)) refl young ds
      where
        young : length (renumbered t.now.store.dense) ≤ t.now.store.pushes
        young =
            let s : Store = t.now.store in
            omega (arith, length-map s.dense (line_of s.dense), count_pushes s.dense s.pushes num.ages (numbered_old s num))

    -- the same of a run stopped after the picks cs, beside the run with all picks
    pub parted_goes_on : AgesUnseen w → (t : Traced) → Numbered t.now.store → (cs ds : List ℕ)
        → GoesOn n pt (run_word n pt w cs t).log (run_word n pt w (cs ++ ds) t) (run_word n pt w ds (resumed (saved (run_word n pt w cs t).now)))
    parted_goes_on unseen t num cs ds =
        let v : Traced = run_word n pt w cs t in
        subst (λ (u : Traced). GoesOn n pt v.log u (run_word n pt w ds (resumed (saved v.now)))) (sym (run_append n pt w cs ds t))
        (saved_goes_on unseen v (run_numbered cs t num) ds)

  pub begin_numbered : (r : List ℕ) → Numbered (begin n pt r).now.store
  begin_numbered r = pairs_kept Numbered numbered_kept pt (edges n r) (edges n r) empty numbered_empty

  -- A run from the ring r, stopped after the picks cs, saved and taken up with the picks ds, beside the run with all picks.
  pub taken_up_alike : (r cs ds : List ℕ)
      → GoesOn n pt (after n pt place cs r).log (after n pt place (cs ++ ds) r) (run_word n pt place ds (resumed (saved (after n pt place cs r).now)))
  taken_up_alike r cs ds = parted_goes_on place place_unseen (begin n pt r) (begin_numbered r) cs ds

  -- ---- any fit image
  module _ (board : Board n pt) where
    -- what is saved of a state that a run can go on from is fit: the start, and whatever comes after it or after an image was taken up
    pub run_fit : (w : ℕ → State → ℕ) → Picks w → (r : List ℕ) → IsRing n r → (cs : List ℕ) → Fit n pt (saved (after n pt w cs r).now)
    run_fit w picks r ring cs = saved_fit n pt board _ (run_ready n pt board (begin n pt r).now (begin_ready n pt board r ring) w picks cs)

    module _ (m : Image) (fit : Fit n pt m) where
      ready : Ready n pt (take_up m)
      ready = fit_ready n pt board m fit

      -- no fit image has more than n * (n - 1) records, even where it names every pair twice
      pub fit_few : length m.lines ≤ n * (n - 1)
      fit_few = omega (arith, ready.room, slotted_length 0 m.lines)

      -- a run from it, stopped after the picks cs, saved and taken up again
      pub again_alike : (cs ds : List ℕ)
          → let t = run_word n pt place cs (resumed m) in GoesOn n pt t.log (run_word n pt place (cs ++ ds) (resumed m)) (run_word n pt place ds (resumed (saved t.now)))
      again_alike cs ds = parted_goes_on place place_unseen (resumed m) ready.numbered cs ds

      module _ (w : ℕ → State → ℕ) (picks : Picks w) where
        -- what it leaves is saved to a fit image
        pub again_fit : (cs : List ℕ) → Fit n pt (saved (run_word n pt w cs (resumed m)).now)
        again_fit cs = saved_fit n pt board _ (run_ready n pt board (take_up m) ready w picks cs)

        -- Any fit image: after any picks the record equals the fresh search, each pair once or twice, which rests on the image; and all else of demand 3.
        pub fit_onward : (cs : List ℕ) → Onward n pt (twice_of (take_up m)) w cs (resumed m) (length m.lines)
        fit_onward cs = ready_onward n pt board (take_up m) ready w picks cs (length m.lines)

        -- at every moment, also in the middle of a move, at most n * (n - 1) records and slots
        pub fit_roomy : (u : Store) → Moment n pt w (resumed m) u → Roomy n pt u
        fit_roomy = ready_roomy n pt board (take_up m) ready w picks

        -- with at most 256 points and 1,000,000 picks every age is a 32-bit number
        pub fit_pushes : (cs : List ℕ) → n ≤ 256 → length cs ≤ 1000000 → (run_word n pt w cs (resumed m)).now.store.pushes ≤ 765065280
        fit_pushes cs small few = run_fits n pt board (twice_of (take_up m)) w picks cs (resumed m) (ready_whole n pt board (take_up m) ready).inv small few fit_few

    -- width 8: records with no ages
    pub placed_onward : (r : List ℕ) (ls : List Line) → IsRing n r → Names n pt r (slotted 0 ls) → (w : ℕ → State → ℕ) → Picks w → (cs : List ℕ)
        → Onward n pt (twice_of (take_up (record { ring = r; lines = placed 0 ls }))) w cs (resumed (record { ring = r; lines = placed 0 ls })) (length (placed 0 ls))
    placed_onward r ls ring na = fit_onward (record { ring = r; lines = placed 0 ls }) (placed_fit n pt board r ls ring na)
