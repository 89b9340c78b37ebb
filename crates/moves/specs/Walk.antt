-- Places on a ring over lent points.
use Rattle.std.specs.Prelude.{◌≡◌, List, ℕ, ◌<◌}
use Rattle.geometry.specs.Plane.{Point}
use Rattle.geometry.specs.Spots.{spots}
use Rattle.polygon.specs.Place.{position}
use Rattle.polygon.specs.declared.position.Position.{Position}
use Rattle.moves.specs.declared.vertex.Vertex.{Vertex}

-- the ring on which a vertex stands, and its place there
abbrev pub ring_of : Vertex → List ℕ
ring_of v = v.cursor.ring.now

abbrev pub place_of : Vertex → ℕ
place_of v = v.cursor.position.id.0

-- point number i of those that the ring names
abbrev pub point_of : Vertex → ℕ → Point
point_of v = spots v.points

-- the place i of the same ring over the same points
pub record Moved (v : Vertex) (i : ℕ) (w : Vertex) : Type 0 where
  pub points : w.points ≡ v.points
  pub ring : w.cursor.ring ≡ v.cursor.ring
  pub position : w.cursor.position ≡ position v.points.n i

-- a position of the ring on which a vertex stands
pub record On (v : Vertex) (q : Position) : Type 0 where
  pub size : q.size ≡ v.points.n
  pub below : q.id.0 < v.points.n
