-- What a run counts, and the lent buffers after it.
use Rattle.std.specs.Prelude.{◌≡◌, cond, List, ℕ, eqb, length}
use Rattle.geometry.specs.Plane.{Point}
use Rattle.polygon.specs.Ring.{index_of}
use Rattle.intersection_set.specs.Pool.{Buffers}
use Rattle.intersection_set.specs.Holds.{Shows}
use Rattle.machine.specs.Machine.{State, run_word, place}
use Rattle.machine.specs.Answer.{finish}
use Rattle.machine.specs.Onward.{from}
use Rattle.untangle.specs.Running.{state_after}

-- From the state s by the picks cs: the moves made, the records at first, the records left.
pub record Counted (n : ℕ) (pt : ℕ → Point) (s : State) (cs : List ℕ) (m c l : ℕ) : Type 0 where
  pub moves : m ≡ length (run_word n pt place cs (from s)).log
  pub cross : c ≡ length s.store.dense
  pub left : l ≡ length (state_after n pt s cs).store.dense

-- the machine's ring, finished if no record is left
abbrev pub last_ring : ℕ → (ℕ → Point) → State → List ℕ → List ℕ
last_ring n pt s cs = let t = state_after n pt s cs in cond (eqb (length t.store.dense) 0) (finish n pt t.ring) t.ring

-- The buffers then: that ring, the index that inverts it, and the machine's records.
pub record Ended (n : ℕ) (pt : ℕ → Point) (s : State) (cs ring index : List ℕ) (b : Buffers) : Type 0 where
  pub same_ring : ring ≡ last_ring n pt s cs
  pub same_index : index ≡ index_of n ring
  pub shows : Shows n b (state_after n pt s cs).store
