-- Calls that take up an image: of what no check refuses demand 3 holds from the image on; what a run saves is never refused, and goes on as the unstopped call.
use mathlib.Core.Path.{◌≡◌, refl, sym, ap, ◌∙◌}
use mathlib.Core.Bool.{Bool, true, false}
use mathlib.Core.List.{List, ◌++◌}
use mathlib.Core.Logic.{◌↔◌}
use Prim.Native.Nat.{ℕ}
use native.Mathlib.Omega.{arith}
use lib.Dec.{eqb}
use lib.ListN.{length, length-append}
use borrow.Author.Tests.{eq-eqb, ne_eqb, ltb-false, le-ltb}
use Rattle.algebra.specs.Cases.{both, eq_cases, true_or_false}
use Rattle.geometry.specs.Plane.{Point}
use Rattle.machine.specs.Machine.{State, start, after, run_word, place}
use Rattle.machine.specs.Answer.{answer_from, too_many, refusal, call}
use Rattle.machine.specs.Onward.{twice_of, Onward}
use Rattle.machine.specs.Demand3.{Picks}
use Rattle.machine.proofs.Accepted.{Accepted, accepted, place_picks}
use Rattle.resume.specs.Image.{Image, saved, take_up, resumed}
use Rattle.resume.specs.Continued.{later}
use Rattle.resume.specs.Fit.{Fit}
use Rattle.resume.specs.Check.{fits, image_refusal, take_up_call}
use Rattle.resume.proofs.Resuming.{taken_up_alike, again_alike, run_fit, again_fit, fit_onward}
use Rattle.resume.proofs.Checking.{fits_decides}

-- of few enough picks the later ones are few enough
pub later_few : (cs ds : List ℕ) → too_many (cs ++ ds) ≡ false → too_many ds ≡ false
later_few cs ds few = le-ltb 1000000 (length ds) (omega (arith, ltb-false 1000000 (length (cs ++ ds)) few, length-append cs ds))

module _ (n : ℕ) (pt : ℕ → Point) (short many : Bool) where
  -- 21 comes after 1 to 7 and 19
  pub seven_first : (m : Image) → (refusal n pt short many m.ring ≡ 0 → ⊥) → image_refusal n pt short many m ≡ refusal n pt short many m.ring
  seven_first m h = let e : eqb (refusal n pt short many m.ring) 0 ≡ false = ne_eqb (refusal n pt short many m.ring) 0 h in grind (arith, e)

  -- no check refuses: the checks 1 to 7 and 19 do not, and the image is fit
  pub image_accepted : (m : Image) → (image_refusal n pt short many m ≡ 0) ↔ ((refusal n pt short many m.ring ≡ 0) × Fit n pt m)
  image_accepted m = (λ h. (let z = none_before h in (z, is z h)), λ p. if p.0 p.1)
    where
      none_before : image_refusal n pt short many m ≡ 0 → refusal n pt short many m.ring ≡ 0
      none_before h = both (eq_cases (refusal n pt short many m.ring) 0) (λ z. z.0) (λ z. sym (seven_first m z.0) ∙ h)

      is : refusal n pt short many m.ring ≡ 0 → image_refusal n pt short many m ≡ 0 → Fit n pt m
      is z h =
          let a = (accepted n pt short many m.ring).0 z in
          let e : eqb (refusal n pt short many m.ring) 0 ≡ true = eq-eqb (refusal n pt short many m.ring) 0 z in
          let t : fits n pt m ≡ true = grind (arith, e, h) in
          (fits_decides n pt a.board m a.ring).0 t

      if : refusal n pt short many m.ring ≡ 0 → Fit n pt m → image_refusal n pt short many m ≡ 0
      if z fit = (let a = (accepted n pt short many m.ring).0 z in rw (z, (fits_decides n pt a.board m a.ring).1 fit))

  -- and it is the answer where none of these refuses, and the image is not fit
  pub then_21 : (m : Image) → refusal n pt short many m.ring ≡ 0 → ¬ (Fit n pt m) → image_refusal n pt short many m ≡ 21
  then_21 m z unfit =
      let a = (accepted n pt short many m.ring).0 z in
      rw (z, both (true_or_false (fits n pt m)) (λ t. absurd (unfit ((fits_decides n pt a.board m a.ring).0 t))) (λ t. t))

-- ---- where a call over these points was accepted
module _ (n : ℕ) (pt : ℕ → Point) (short many : Bool) (r : List ℕ) (a : Accepted n pt short many r) where
  -- a fit image is refused by no check, where buffers are long enough and picks few enough
  fit_accepted : (m : Image) → Fit n pt m → image_refusal n pt false false m ≡ 0
  fit_accepted m fit =
      let b : Accepted n pt false false m.ring = record { few = a.few; long = refl; few_picks = refl; range = a.range; ring = fit.ring; board = a.board } in
      (image_accepted n pt false false m).1 ((accepted n pt false false m.ring).1 b, fit)

  -- nor by those of a call with the picks ds, where all picks together are few enough
  fit_called : (cs ds : List ℕ) → too_many (cs ++ ds) ≡ false → (m : Image) → Fit n pt m → image_refusal n pt short (too_many ds) m ≡ 0
  fit_called cs ds few m fit = (λ i. image_refusal n pt (a.long i) (later_few cs ds few i) m) ∙ fit_accepted m fit

module _ (n : ℕ) (pt : ℕ → Point) (short many : Bool) where
  -- What an accepted run saves is taken up: no check refuses it, where buffers are long enough and picks few enough.
  pub saved_accepted : (r : List ℕ) → refusal n pt short many r ≡ 0 → (cs : List ℕ) → image_refusal n pt false false (saved (after n pt place cs r).now) ≡ 0
  saved_accepted r h cs =
      let a = (accepted n pt short many r).0 h in
      fit_accepted n pt short many r a (saved (after n pt place cs r).now) (run_fit n pt a.board place place_picks r a.ring cs)

  module _ (m : Image) (h : image_refusal n pt short many m ≡ 0) where
    taken : Accepted n pt short many m.ring
    taken = (accepted n pt short many m.ring).0 ((image_accepted n pt short many m).0 h).0

    fit : Fit n pt m
    fit = ((image_accepted n pt short many m).0 h).1

    -- the same of what a run leaves that was itself taken up
    pub again_accepted : (cs : List ℕ) → image_refusal n pt false false (saved (run_word n pt place cs (resumed m)).now) ≡ 0
    again_accepted cs = fit_accepted n pt short many m.ring taken (saved (run_word n pt place cs (resumed m)).now) (again_fit n pt taken.board m fit place place_picks cs)

    -- Demand 3 from the image on, for every list of picks and every choice of the record that each takes.
    pub image_onward : (w : ℕ → State → ℕ) → Picks w → (cs : List ℕ) → Onward n pt (twice_of (take_up m)) w cs (resumed m) (length m.lines)
    image_onward w picks cs = fit_onward n pt taken.board m fit w picks cs

module _ (n : ℕ) (pt : ℕ → Point) (short : Bool) where
  -- So for every call that no check refuses.
  pub image_call : (m : Image) (cs : List ℕ) → image_refusal n pt short (too_many cs) m ≡ 0
      → (take_up_call n pt short m cs ≡ answer_from n pt (length m.lines) (run_word n pt place cs (resumed m)))
      × Onward n pt (twice_of (take_up m)) place cs (resumed m) (length m.lines)
  image_call m cs h = (rw h, image_onward n pt short (too_many cs) m h place place_picks cs)

  -- The unstopped call with all picks, few enough, answers as the call that takes up what was saved after the picks cs, with the moves made before, and its own
  -- starting count.
  pub call_goes_on : (r cs ds : List ℕ) → too_many (cs ++ ds) ≡ false → refusal n pt short (too_many cs) r ≡ 0
      → call n pt short r (cs ++ ds)
      ≡ later (length (after n pt place cs r).log) (length (start n pt r).dense) (take_up_call n pt short (saved (after n pt place cs r).now) ds)
  call_goes_on r cs ds few h =
      let m : Image = saved (after n pt place cs r).now in
      let a = (accepted n pt short (too_many cs) r).0 h in
      let all : refusal n pt short (too_many (cs ++ ds)) r ≡ 0 = ap (λ (b : Bool). refusal n pt short b r) (few ∙ sym a.few_picks) ∙ h in
      let up : image_refusal n pt short (too_many ds) m ≡ 0 = fit_called n pt short (too_many cs) r a cs ds few m (run_fit n pt a.board place place_picks r a.ring cs) in
      rw (all, up) ((taken_up_alike n pt r cs ds).answers (length (start n pt r).dense) (length m.lines))

  -- The same of a call that itself takes up an image, stopped after the picks cs.
  pub call_goes_on_again : (m : Image) (cs ds : List ℕ) → too_many (cs ++ ds) ≡ false → image_refusal n pt short (too_many cs) m ≡ 0
      → let t = run_word n pt place cs (resumed m) in take_up_call n pt short m (cs ++ ds) ≡ later (length t.log) (length m.lines) (take_up_call n pt short (saved t.now) ds)
  call_goes_on_again m cs ds few h =
      let m' : Image = saved (run_word n pt place cs (resumed m)).now in
      let p = (image_accepted n pt short (too_many cs) m).0 h in
      let a = (accepted n pt short (too_many cs) m.ring).0 p.0 in
      let all : image_refusal n pt short (too_many (cs ++ ds)) m ≡ 0 = ap (λ (b : Bool). image_refusal n pt short b m) (few ∙ sym a.few_picks) ∙ h in
      let up : image_refusal n pt short (too_many ds) m' ≡ 0
      = fit_called n pt short (too_many cs) m.ring a cs ds few m' (again_fit n pt a.board m p.1 place place_picks cs) in
      rw (all, up) ((again_alike n pt a.board m p.1 cs ds).answers (length m.lines) (length m'.lines))
