-- The edges of a ring, in ring order, and an edge's direction on it.
use Rattle.std.specs.Prelude.{◌≡◌, cond, List, map, ℕ, ◌<◌, eqb}
use Rattle.algebra.specs.Ranges.{up_from}
use Rattle.algebra.specs.Sums.{sum_to}
use Rattle.index_edge.specs.Edge.{Edge, edge}
use Rattle.polygon.specs.Ring.{next, at, place_of}

-- the edge from position i to the next
abbrev pub edge_at : ℕ → List ℕ → ℕ → Edge
edge_at n r i = edge (at r i) (at r (next n i))

-- The ring's edges, in ring order.
abbrev pub edges : ℕ → List ℕ → List Edge
edges n r = map (edge_at n r) (up_from 0 n)

-- the sum of what f says of each
abbrev pub edge_sum : (Edge → ℕ) → ℕ → List ℕ → ℕ
edge_sum f n r = sum_to (λ i. f (edge_at n r i)) n

-- e is the edge at some position
abbrev pub IsEdge : ℕ → List ℕ → Edge → Type 0
IsEdge n r e = (i : ℕ) × (i < n) × (edge_at n r i ≡ e)

-- The position at which the ring's directed edge e starts.
abbrev pub direct : ℕ → List ℕ → Edge → ℕ
direct n r e = cond (eqb (next n (place_of e.lo r 0)) (place_of e.hi r 0)) (place_of e.lo r 0) (place_of e.hi r 0)
