-- Demand 3, whole: what holds for every accepted start, every list of picks, and every choice of the record that each used pick takes.
-- `demand3` in proofs/Demand3Holds.antt proves it.
use Rattle.std.specs.Prelude.{◌≡◌, true, false, List, [], ◌++◌, ◌≢◌, ℕ, ◌≤◌, ◌<◌, pos, ◌<ℤ◌, length, take}
use Rattle.geometry.specs.Plane.{Point, Before}
use Rattle.geometry.specs.Segment.{Meet}
use Rattle.index_edge.specs.Edge.{Edge, lt_edge}
use Rattle.polygon.specs.Ring.{IsRing, at, turned_round}
use Rattle.polygon.specs.Edges.{IsEdge}
use Rattle.intersection_set.specs.Store.{Rec, counted}
use Rattle.machine.specs.Board.{pt_at, turn_at}
use Rattle.machine.specs.Machine.{State, Traced, same_hoist, start, begin, run_word, after, fresh}
use Rattle.machine.specs.Answer.{delivered, unfinished, finish, answer}

-- a choice of the dense place: where records are left it takes one of them
abbrev pub Picks : (ℕ → State → ℕ) → Type 0
Picks w = (c : ℕ) (s : State) → 0 < length s.store.dense → w c s < length s.store.dense

module _ (n : ℕ) (pt : ℕ → Point) where
  -- ---- a fresh search
  -- two different edges of the ring that meet, the smaller first
  pub record Pair (r : List ℕ) (e f : Edge) : Type 0 where
    pub first : IsEdge n r e
    pub second : IsEdge n r f
    pub in_order : lt_edge e f ≡ true
    pub meet : Meet (pt e.lo) (pt e.hi) (pt f.lo) (pt f.hi)

  -- l names each of these pairs once, and no other
  pub record Search (r : List ℕ) (l : List Rec) : Type 0 where
    pub each : (e f : Edge) → Pair r e f → counted e f l ≡ 1
    pub only : (e f : Edge) → ¬ (Pair r e f) → counted e f l ≡ 0

  -- ---- the loop
  -- the point at m comes before every other
  pub record Least (r : List ℕ) (m : ℕ) : Type 0 where
    pub within : m < n
    pub below : (i : ℕ) → i < n → i ≢ m → Before (pt_at pt r m) (pt_at pt r i)

  -- l is r, reversed whole if its least point turns clockwise
  pub record Finished (r l : List ℕ) : Type 0 where
    pub least : ℕ
    pub is_least : Least r least
    pub clockwise : turn_at n pt r least <ℤ pos 0 → l ≡ turned_round n r
    pub counter : pos 0 <ℤ turn_at n pt r least → l ≡ r
    pub corner : turn_at n pt r least ≢ pos 0

  -- l is the loop delivered for the ring r: it visits every point once, its least point turns counter-clockwise, and no two edges meet
  pub record Loop (r l : List ℕ) : Type 0 where
    pub finished : Finished r l
    pub ring : IsRing n l
    pub visits : (v : ℕ) → v < n → (i : ℕ) × (i < n) × (at l i ≡ v) × ((j : ℕ) → j < n → at l j ≡ v → j ≡ i)
    pub turns : (i : ℕ) × Least l i × (pos 0 <ℤ turn_at n pt l i)
    pub none : fresh n pt l ≡ []

  -- ---- the move count
  -- for a run from t, k is the length of the shortest beginning of the list after which a fresh search finds none, else of the whole list
  pub record MoveCount (w : ℕ → State → ℕ) (cs : List ℕ) (t : Traced) (k : ℕ) : Type 0 where
    pub within : k ≤ length cs
    pub before : (j : ℕ) → j < k → fresh n pt (run_word n pt w (take j cs) t).now.ring ≡ [] → ⊥
    pub then_none : k < length cs → fresh n pt (run_word n pt w (take k cs) t).now.ring ≡ []

  -- ---- the demand, for the picks cs from the ring r, with the choice w
  module _ (w : ℕ → State → ℕ) (cs r : List ℕ) where
    -- after the whole list: the machine, its ring, the record, and the pairs that a fresh search finds
    abbrev pub last : Traced
    last = after n pt w cs r

    abbrev pub last_ring : List ℕ
    last_ring = last.now.ring

    abbrev pub last_record : List Rec
    last_record = last.now.store.dense

    abbrev pub last_pairs : List Rec
    last_pairs = fresh n pt last_ring

    pub record Demand3 : Type 0 where
      -- a fresh search finds every unordered pair of different ring edges that meet: in the starting ring, and in the last
      pub searched : Search r (fresh n pt r)
      pub searched_last : Search last_ring last_pairs
      -- before the first pick the record names each pair that meets in the starting ring once
      pub starts : Search r (start n pt r).dense
      -- after the list it names exactly the pairs that meet: twice exactly when one and the same hoist was the last move to lay each of its edges, else once
      pub twice : (e f : Edge) → Pair last_ring e f → same_hoist e f last.log ≡ true → counted e f last_record ≡ 2
      pub once : (e f : Edge) → Pair last_ring e f → same_hoist e f last.log ≡ false → counted e f last_record ≡ 1
      pub only : (e f : Edge) → ¬ (Pair last_ring e f) → counted e f last_record ≡ 0
      -- a loop is delivered exactly when that search finds none, with the moves made and the number of pairs found at the start;
      -- else the ring, the moves made and the records left are answered, a pair named twice counted as two
      pub delivers : last_pairs ≡ [] → answer n pt r last ≡ delivered (finish n pt last_ring) (length last.log) (length (fresh n pt r))
      pub withholds : ¬ (last_pairs ≡ []) → answer n pt r last ≡ unfinished last_ring (length last.log) (length last_record)
      -- the loop visits every point once, turns counter-clockwise at its least point, and never meets itself
      pub loop : last_pairs ≡ [] → Loop last_ring (finish n pt last_ring)
      -- the ring after the list visits every point once too
      pub ring : IsRing n last_ring
      -- every longer list with the same beginning delivers the same loop, move count and starting count
      pub longer : (more : List ℕ) → last_pairs ≡ [] → answer n pt r (after n pt w (cs ++ more) r) ≡ answer n pt r last
      -- the move count
      pub moves : MoveCount w cs (begin n pt r) (length last.log)
