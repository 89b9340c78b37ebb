-- Marks for the pairs that records name, by the positions of their edges.
use Rattle.std.specs.Prelude.{◌≡◌, ◌≢◌, true, Bool, cond, List, ◌⊎◌, ℕ, ◌+◌, ◌-◌, ◌*◌, ◌≤◌, ◌<◌, eqb, ltb, length, get_or, set, Option as Found, Some, None}
use Rattle.geometry.specs.Plane.{Point}
use Rattle.index_edge.specs.Edge.{Edge, lt_edge}
use Rattle.polygon.specs.Ring.{at}
use Rattle.polygon.specs.Edges.{edge_at, IsEdge}
use Rattle.polygon.specs.declared.position.PositionId.{PositionId}
use Rattle.intersection_set.specs.Store.{Rec, no_rec, counted}
use Rattle.intersection_set.specs.Lists.{head_place}
use Rattle.intersection_set.specs.Pool.{lesser, greater}
use Rattle.machine.specs.Board.{meet_edges}

-- ---- where edges stand
-- e is the edge that starts at the position of the point v; none: it is not
abbrev pub StartsAt : ℕ → List ℕ → List ℕ → Edge → ℕ → Found PositionId → Type 0
StartsAt n r x e v (Some p) = (p.0 < n) × (edge_at n r p.0 ≡ e)
StartsAt n r x e v None = v < n → edge_at n r (at x v) ≢ e

-- e is the edge at this position; none: it is no edge of the ring
abbrev pub StandsAt : ℕ → List ℕ → Edge → Found PositionId → Type 0
StandsAt n r e (Some p) = (p.0 < n) × (edge_at n r p.0 ≡ e)
StandsAt n r e None = ¬ (IsEdge n r e)

-- two edges of the ring, the smaller first
pub record TwoEdges (n : ℕ) (r : List ℕ) (e f : Edge) : Type 0 where
  pub first : IsEdge n r e
  pub second : IsEdge n r f
  pub in_order : lt_edge e f ≡ true

-- ---- marks
-- where the mark of the edges at the positions i and j stands, i the lesser
abbrev pub mark_place : ℕ → ℕ → ℕ → ℕ
mark_place n i j = head_place n (record { lo = i; hi = j })

abbrev pub mark_at : ℕ → ℕ → ℕ → List ℕ → ℕ
mark_at n i j table = get_or table (mark_place n i j) 0

-- e and f are the edges at two positions, i and j, in their order
pub record Between (n : ℕ) (r : List ℕ) (e f : Edge) (i j : ℕ) : Type 0 where
  pub in_turn : i < j
  pub within : j < n
  pub first : e ≡ lesser (edge_at n r i) (edge_at n r j)
  pub second : f ≡ greater (edge_at n r i) (edge_at n r j)

-- where the mark of e and f stands; none: they are no two edges of the ring in order
abbrev pub PlaceOf : ℕ → List ℕ → Edge → Edge → Found ℕ → Type 0
PlaceOf n r e f (Some k) = (i : ℕ) × (j : ℕ) × Between n r e f i j × (k ≡ mark_place n i j)
PlaceOf n r e f None = ¬ (TwoEdges n r e f)

-- their mark is one more, at most two
pub record Marked (n : ℕ) (r : List ℕ) (e f : Edge) (was is : List ℕ) : Type 0 where
  pub i : ℕ
  pub j : ℕ
  pub between : Between n r e f i j
  pub few : mark_at n i j was < 2
  pub more : is ≡ set was (mark_place n i j) (mark_at n i j was + 1)

-- they are no two edges in order, or have two marks already
abbrev pub Unfit : ℕ → List ℕ → Edge → Edge → List ℕ → Type 0
Unfit n r e f was = (¬ (TwoEdges n r e f)) ⊎ ((i : ℕ) × (j : ℕ) × Between n r e f i j × (2 ≤ mark_at n i j was))

-- how many of the records d name the edges at the positions i and j
abbrev pub naming : ℕ → List ℕ → List Rec → ℕ → ℕ → ℕ
naming n r d i j = counted (lesser (edge_at n r i) (edge_at n r j)) (greater (edge_at n r i) (edge_at n r j)) d

-- each mark says how many, at most two; and each record names two edges of the ring
pub record MarksAll (n : ℕ) (r : List ℕ) (d : List Rec) (table : List ℕ) : Type 0 where
  pub size : n * (n - 1) ≤ length table
  pub says : (i j : ℕ) → i < j → j < n → mark_at n i j table ≡ naming n r d i j
  pub few : (i j : ℕ) → i < j → j < n → mark_at n i j table ≤ 2
  pub two : (k : ℕ) → k < length d → TwoEdges n r (get_or d k no_rec).e0 (get_or d k no_rec).e1

-- some record names no two edges of the ring, or a pair that is named more than twice
abbrev pub SomeUnfit : ℕ → List ℕ → List Rec → Type 0
SomeUnfit n r d = (k : ℕ) × (k < length d) × ((¬ (TwoEdges n r (get_or d k no_rec).e0 (get_or d k no_rec).e1)) ⊎ (2 < counted (get_or d k no_rec).e0 (get_or d k no_rec).e1 d))

-- ---- marks against meetings
-- the edges at i and j are marked exactly if they meet
abbrev pub agree : ℕ → (ℕ → Point) → List ℕ → List ℕ → ℕ → ℕ → Bool
agree n pt r table i j = cond (meet_edges pt (edge_at n r i) (edge_at n r j)) (ltb 0 (mark_at n i j table)) (eqb (mark_at n i j table) 0)
