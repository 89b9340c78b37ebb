-- What a stopped run hands over, and what is the same of the run that is taken up.
use Rattle.std.specs.Prelude.{◌≡◌, List, ◌++◌, ℕ, ◌+◌, length}
use Rattle.geometry.specs.Plane.{Point}
use Rattle.machine.specs.Machine.{State, run_word, place}
use Rattle.machine.specs.Onward.{from}
use Rattle.untangle.specs.Running.{state_after}
use Rattle.resolve.specs.Ended.{last_ring}
use Rattle.resume.specs.Image.{Image, image_of}
use Rattle.resume.specs.AgesAside.{Twin}

-- The image of what a run from the state s leaves after the picks cs: its ring, turned the right way round where no record is left, and its records.
abbrev pub left_by : ℕ → (ℕ → Point) → State → List ℕ → Image
left_by n pt s cs = image_of (last_ring n pt s cs) (state_after n pt s cs).store.dense

-- the moves that a run makes
abbrev pub moves_of : ℕ → (ℕ → Point) → State → List ℕ → ℕ
moves_of n pt s cs = length (run_word n pt place cs (from s)).log

-- A run from s by all picks, and one from u over qt by the later ones ds: they leave the same ring, the same pairs in dense order, with ages that are ordered alike,
-- and the moves of both parts add up.
pub record EndsAlike (n : ℕ) (pt : ℕ → Point) (s : State) (cs ds : List ℕ) (qt : ℕ → Point) (u : State) : Type 0 where
  pub ring : last_ring n pt s (cs ++ ds) ≡ last_ring n qt u ds
  pub records : Twin (state_after n pt s (cs ++ ds)).store.dense (state_after n qt u ds).store.dense
  pub moves : moves_of n pt s (cs ++ ds) ≡ moves_of n pt s cs + moves_of n qt u ds
