-- The lent buffers in the middle of a run.
use Rattle.std.specs.Prelude.{◌≡◌, List, ℕ, ◌-◌, ◌*◌, ◌≤◌, ◌<◌, length, get_or}
use Rattle.geometry.specs.Plane.{Point}
use Rattle.index_edge.specs.Edge.{Edge}
use Rattle.polygon.specs.Ring.{index_of}
use Rattle.intersection_set.specs.Store.{no_rec, chosen}
use Rattle.intersection_set.specs.Pool.{Pool}
use Rattle.intersection_set.specs.Holds.{Holds}
use Rattle.machine.specs.Board.{Board}
use Rattle.machine.specs.Machine.{State, run_word, place}
use Rattle.machine.specs.Onward.{from, Ready}

-- the machine after the picks cs from the state s
abbrev pub state_after : ℕ → (ℕ → Point) → State → List ℕ → State
state_after n pt s cs = (run_word n pt place cs (from s)).now

-- The buffers hold that machine: its ring, the index that inverts it, and its records. A run can go on from s, which made no more pushes than a record has room for.
pub record Running (n : ℕ) (pt : ℕ → Point) (s : State) (cs ring index : List ℕ) (p : Pool) : Type 0 where
  pub few : n ≤ 256
  pub board : Board n pt
  pub ready : Ready n pt s
  pub young : s.store.pushes ≤ n * (n - 1)
  pub same_ring : ring ≡ (state_after n pt s cs).ring
  pub same_index : index ≡ index_of n ring
  pub holds : Holds n p (state_after n pt s cs).store

-- Records are left, e and f are the edges of the one that the pick c takes, and with it there are at most 1,000,000 picks.
pub record Picked (n : ℕ) (pt : ℕ → Point) (s : State) (cs : List ℕ) (c : ℕ) (e f : Edge) : Type 0 where
  pub few_picks : length cs < 1000000
  pub some : 0 < length (state_after n pt s cs).store.dense
  pub first : e ≡ (get_or (state_after n pt s cs).store.dense (chosen c (state_after n pt s cs).store) no_rec).e0
  pub second : f ≡ (get_or (state_after n pt s cs).store.dense (chosen c (state_after n pt s cs).store) no_rec).e1
