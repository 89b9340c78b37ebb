-- A job's run that is stopped, saved and taken up with more picks, beside the run with all picks.
use Rattle.std.specs.Prelude.{◌≡◌, false, List, ◌∷◌, ◌++◌, ℕ, ◌+◌, length}
use Rattle.algebra.specs.Ranges.{up_from}
use Rattle.geometry.specs.Plane.{Point}
use Rattle.machine.specs.Machine.{State, begin}
use Rattle.machine.specs.Answer.{Answer, unfinished, delivered, call}
use Rattle.job.specs.Words.{bytes_of}
use Rattle.job.specs.Text.{loop_lines}
use Rattle.resume.specs.Continued.{later}
use Rattle.image.specs.Reading.{record_count}
use Rattle.take_up.specs.TakenUp.{taking_call}
use Rattle.handover.specs.Handed.{moves_of}
use Rattle.tour.specs.Printed.{run_text}
use Rattle.going_on.specs.Printed.{printed_on}

-- what `go_on` reads: how many picks, the picks, an image
abbrev pub input_of : List ℕ → List ℕ → List ℕ
input_of ds img = bytes_of (length ds ∷ ds) ++ img

-- From the ring 0, 1, 2, .. over the points pt, first the picks cs, then ds; the image was saved between the two.
module _ (n : ℕ) (pt : ℕ → Point) (cs ds img : List ℕ) where
  abbrev pub first : State
  first = (begin n pt (up_from 0 n)).now

  -- what the run with all picks answers
  abbrev pub unstopped : Answer
  unstopped = call n pt false (up_from 0 n) (cs ++ ds)

  pub record Onwards : Type 0 where
    -- it is what the one that was taken up answers, but for the moves made before, and its own starting count
    pub answers : unstopped ≡ later (moves_of n pt first cs) (length first.store.dense) (taking_call img false ds)
    -- where all picks are used up the same text is printed of both
    pub same_text : (l : List ℕ) (m k : ℕ) → unstopped ≡ unfinished l m k → printed_on (input_of ds img) ≡ run_text n pt (cs ++ ds)
    -- where a loop is delivered it is the same; the moves told are those since, the starting count is that of the image's records
    pub same_loop : (l : List ℕ) (m c : ℕ) → unstopped ≡ delivered l m c → (j : ℕ) × (m ≡ moves_of n pt first cs + j) × (printed_on (input_of ds img) ≡ loop_lines pt l j (record_count img))
