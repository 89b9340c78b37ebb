-- Demand 3 for a run from any state, as one that was saved and taken up: what holds after every list of picks, for every choice of the record
-- that each used pick takes. `onward` in proofs/Demand3Holds.antt proves it; Demand3 is the case of the start.
use Rattle.std.specs.Prelude.{◌≡◌, Bool, true, false, List, [], ◌++◌, ◌⊎◌, ℕ, ◌+◌, ◌-◌, ◌*◌, ◌≤◌, ltb, length}
use Rattle.geometry.specs.Plane.{Point}
use Rattle.index_edge.specs.Edge.{Edge}
use Rattle.polygon.specs.Ring.{IsRing}
use Rattle.intersection_set.specs.Store.{Rec, counted, grown}
use Rattle.intersection_set.specs.Numbered.{Numbered}
use Rattle.machine.specs.Machine.{State, Traced, doubled, run_word, fresh}
use Rattle.machine.specs.Answer.{delivered, unfinished, finish, answer_from}
use Rattle.machine.specs.Demand3.{Pair, Search, Loop, MoveCount}

-- a run from the state s, with no move made yet
abbrev pub from : State → Traced
from s = record { now = s; log = [] }

-- the pairs that its record names twice
abbrev pub twice_of : State → Edge → Edge → Bool
twice_of s e f = ltb 1 (counted e f s.store.dense)

module _ (n : ℕ) (pt : ℕ → Point) where
  -- l names each pair that meets once or twice, and no other
  pub record Names (r : List ℕ) (l : List Rec) : Type 0 where
    pub each : (e f : Edge) → Pair n pt r e f → (counted e f l ≡ 1) ⊎ (counted e f l ≡ 2)
    pub only : (e f : Edge) → ¬ (Pair n pt r e f) → counted e f l ≡ 0

  -- A state that a run can go on from: its ring names each point once, its record each pair that meets once or twice; ages differ and are below the next one, live and
  -- free slots are exactly the slots grown, and these are within n×(n-1).
  pub record Ready (s : State) : Type 0 where
    pub ring : IsRing n s.ring
    pub names : Names s.ring s.store.dense
    pub numbered : Numbered s.store
    pub room : grown s.store ≤ n * (n - 1)

  -- the run from t with the picks cs; `was` says which pairs t names twice, and k is the count that a delivered loop is answered with
  module _ (was : Edge → Edge → Bool) (w : ℕ → State → ℕ) (cs : List ℕ) (t : Traced) (k : ℕ) where
    abbrev pub end : Traced
    end = run_word n pt w cs t

    abbrev pub end_ring : List ℕ
    end_ring = end.now.ring

    abbrev pub end_record : List Rec
    end_record = end.now.store.dense

    abbrev pub end_pairs : List Rec
    end_pairs = fresh n pt end_ring

    pub record Onward : Type 0 where
      -- the ring visits every point once
      pub ring : IsRing n end_ring
      -- a fresh search finds every unordered pair of different ring edges that meet
      pub searched : Search n pt end_ring end_pairs
      -- the record names exactly these, each once or twice: twice exactly when one and the same hoist was the last move to lay each of its edges, or no move laid
      -- either and it was named twice
      pub names : Names end_ring end_record
      pub twice : (e f : Edge) → Pair n pt end_ring e f → doubled was e f end.log ≡ true → counted e f end_record ≡ 2
      pub once : (e f : Edge) → Pair n pt end_ring e f → doubled was e f end.log ≡ false → counted e f end_record ≡ 1
      -- a loop is delivered exactly when that search finds none
      pub delivers : end_pairs ≡ [] → answer_from n pt k end ≡ delivered (finish n pt end_ring) (length end.log) k
      pub withholds : ¬ (end_pairs ≡ []) → answer_from n pt k end ≡ unfinished end_ring (length end.log) (length end_record)
      pub loop : end_pairs ≡ [] → Loop n pt end_ring (finish n pt end_ring)
      -- every longer list with the same beginning delivers the same
      pub longer : (more : List ℕ) → end_pairs ≡ [] → answer_from n pt k (run_word n pt w (cs ++ more) t) ≡ answer_from n pt k end
      -- the moves made since t
      pub moves : (j : ℕ) × (length end.log ≡ length t.log + j) × MoveCount n pt w cs t j
