-- The plain machine: the ring and the store of records, the start, one move, and the run over the picks. A log says what each move laid.
use Rattle.std.specs.Prelude.{Bool, false, not, ◌&&◌, ◌||◌, cond, List, [], ◌∷◌, ◌++◌, ℕ, eqb, length, get_or}
use Rattle.geometry.specs.Plane.{Point}
use Rattle.index_edge.specs.Edge.{Edge, eq_edge, lt_edge, edge_in}
use Rattle.polygon.specs.Edges.{edges, direct}
use Rattle.polygon.specs.Change.{Plan, by_hoist, cut, lay, turned}
use Rattle.intersection_set.specs.Store.{Rec, Store, empty, push, removes, no_rec, chosen}
use Rattle.machine.specs.Board.{meet_edges}
use Rattle.machine.specs.Search.{plan_at}

pub record State : Type 0 where
  pub ring : List ℕ
  pub store : Store

-- What a move laid, and whether it was a hoist.
pub record Laid : Type 0 where
  pub hoisted : Bool
  pub news : List Edge

-- the machine with its log, the newest move first
pub record Traced : Type 0 where
  pub now : State
  pub log : List Laid

-- Of the moves since some moment one and the same hoist was the last to lay each of e and f; where none of them laid either, as `was` says of that moment.
abbrev pub doubled : (Edge → Edge → Bool) → Edge → Edge → List Laid → Bool
doubled was e f [] = was e f
doubled was e f (m ∷ l) =
    let older = doubled was e f l in
    cond (edge_in e m.news || edge_in f m.news) (m.hoisted && (edge_in e m.news && edge_in f m.news)) older

-- nothing is named twice before the first move
abbrev pub nothing_twice : Edge → Edge → Bool
nothing_twice e f = false

-- One and the same hoist was the last move to lay each of e and f.
abbrev pub same_hoist : Edge → Edge → List Laid → Bool
same_hoist e f l = doubled nothing_twice e f l

-- ---- searching, over the board's points
module _ (pt : ℕ → Point) where
  -- every other edge of the list that meets e is pushed
  abbrev pub scan_over : Edge → List Edge → Store → Store
  scan_over e [] s = s
  scan_over e (f ∷ l) s = scan_over e l (cond (not (eq_edge f e) && meet_edges pt f e) (push f e s) s)

  -- for each new edge in order, every other ring edge from position 0 that meets it
  abbrev pub scans : List Edge → List Edge → Store → Store
  scans all [] s = s
  scans all (e ∷ l) s = scans all l (scan_over e all s)

  -- every greater edge of the list that meets e is pushed
  abbrev pub pairs_with : Edge → List Edge → Store → Store
  pairs_with e [] s = s
  pairs_with e (f ∷ l) s = pairs_with e l (cond (lt_edge e f && meet_edges pt e f) (push e f s) s)

  abbrev pub pairs : List Edge → List Edge → Store → Store
  pairs all [] s = s
  pairs all (e ∷ l) s = pairs all l (pairs_with e all s)

  -- ---- the fresh search: the same pairs, with nothing kept
  abbrev pub fresh_with : Edge → List Edge → List Rec
  fresh_with e [] = []
  fresh_with e (f ∷ l) = cond (lt_edge e f && meet_edges pt e f) (record { e0 = e; e1 = f; age = 0; slot = 0 } ∷ fresh_with e l) (fresh_with e l)

  abbrev pub fresh_over : List Edge → List Edge → List Rec
  fresh_over all [] = []
  fresh_over all (e ∷ l) = fresh_with e all ++ fresh_over all l

module _ (n : ℕ) (pt : ℕ → Point) where
  -- Every unordered pair of different ring edges that meet.
  abbrev pub fresh : List ℕ → List Rec
  fresh r = fresh_over pt (edges n r) (edges n r)

  -- The start takes, for each edge in ring order, every greater edge in ring order, pushing those that meet.
  abbrev pub start : List ℕ → Store
  start r = pairs pt (edges n r) (edges n r) empty

  abbrev pub begin : List ℕ → Traced
  begin r = record { now = record { ring = r; store = start r }; log = [] }

  -- A move: remove all of each cut edge, change the ring, search for each laid edge.
  abbrev pub carry : Plan → State → State
  carry m s =
      record { ring = turned n m s.ring; store = scans pt (edges n (turned n m s.ring)) (lay n m s.ring) (removes (cut n m s.ring) s.store) }

  -- the move for the record at dense place k: its edges, smaller first, directed by the ring
  abbrev pub plan_of : State → ℕ → Plan
  plan_of s k = plan_at n pt s.ring (direct n s.ring (get_or s.store.dense k no_rec).e0) (direct n s.ring (get_or s.store.dense k no_rec).e1)

  -- a move and its line of the log
  abbrev pub carried : Plan → Traced → Traced
  carried m t = record { now = carry m t.now; log = record { hoisted = by_hoist m; news = lay n m t.now.ring } ∷ t.log }

  -- ---- the picks, with the choice w of the dense place that a pick takes
  module _ (w : ℕ → State → ℕ) where
    -- A pick is used only while records remain.
    abbrev pub step : ℕ → Traced → Traced
    step c t = let t' : Traced = carried (plan_of t.now (w c t.now)) t in cond (eqb (length t.now.store.dense) 0) t t'

    abbrev pub run_word : List ℕ → Traced → Traced
    run_word [] t = t
    run_word (c ∷ cs) t = run_word cs (step c t)

    -- the machine after the picks cs, from the ring r
    abbrev pub after : List ℕ → List ℕ → Traced
    after cs r = run_word cs (begin r)

-- The document's choice: dense entry c mod the list's length.
abbrev pub place : ℕ → State → ℕ
place c s = chosen c s.store
