-- What is known of an edge and of two points of the ring while an edge is compared with the ring's edges.
use Rattle.std.specs.Prelude.{◌≡◌, ℕ, ℤ}
use Rattle.geometry.specs.Plane.{Point, turn}
use Rattle.geometry.specs.Lent.{order_key}
use Rattle.geometry.specs.Spots.{spots}
use Rattle.index_edge.specs.Edge.{Edge, edge}
use Rattle.index_edge.specs.Number.{edge_of}
use Rattle.intersection_set.specs.Within.{Proper}
use Rattle.machine.specs.Board.{Distinct}
use Rattle.sweeps.specs.declared.segment.Segment.{Segment}
use Rattle.sweeps.specs.declared.segment.Seen.{Seen}

-- how an edge turns to a point
abbrev pub turn_to : (ℕ → Point) → Edge → ℕ → ℤ
turn_to pt e v = turn (pt e.lo) (pt e.hi) (pt v)

-- s is the point v as it is seen from the edge e
pub record Sees (pt : ℕ → Point) (e : Edge) (v : ℕ) (s : Seen) : Type 0 where
  pub number : s.id.0 ≡ v
  pub order : s.key ≡ order_key (pt v)
  pub side : s.turn ≡ turn_to pt e v

-- two edges between n points, no two of which are equal
pub record Among (n : ℕ) (pt : ℕ → Point) (e f : Edge) : Type 0 where
  pub distinct : Distinct n pt
  pub first : Proper n e
  pub second : Proper n f

-- an edge, and two points between which another goes
pub record Sight (a : Segment) (from to : Seen) : Type 0 where
  pub among : Among a.points.n (spots a.points) (edge_of a.edge) (edge from.id.0 to.id.0)
  pub first : Sees (spots a.points) (edge_of a.edge) from.id.0 from
  pub second : Sees (spots a.points) (edge_of a.edge) to.id.0 to
