-- Half-open edges, as `DirectedEdgeView` has them (directed_edge.rs): "Directed edge from A to B, including A and excluding B". So a corner of the ring
-- belongs to one edge alone, to that which starts there.
use Rattle.std.specs.Prelude.{List, ℕ, ◌<ℤ◌}
use Rattle.geometry.specs.Plane.{Point}
use Rattle.geometry.specs.Segment.{CommonPlace}
use Rattle.validate.specs.Meetings.{TwoEdges}

-- The edges from a to a' and from b to b' have a place in common, and it is short of the end of each.
pub record HalfMeet (a a' b b' : Point) : Type 0 where
  pub place : CommonPlace a a' b b'
  pub s< : place.s <ℤ place.d
  pub t< : place.t <ℤ place.d

-- Some two half-open edges of the ring have a place in common.
abbrev pub SomeShare : ℕ → (ℕ → Point) → List ℕ → Type 0
SomeShare n pt r = TwoEdges n pt r HalfMeet
