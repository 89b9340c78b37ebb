-- Edges of a run that lie beside a kink: both ends on one side of it in point order.
use Rattle.std.specs.Prelude.{◌≡◌, Bool, not, ℕ, ◌≤◌, ◌<◌}
use Rattle.geometry.specs.Plane.{lt_point}
use Rattle.polygon.specs.Ring.{next}
use Rattle.polygon.specs.declared.position.Position.{Position}
use Rattle.machine.specs.Board.{pt_at}
use Rattle.moves.specs.Walk.{ring_of, place_of, point_of, On}
use Rattle.moves.specs.Best.{looking}
use Rattle.moves.specs.declared.vertex.Vertex.{Vertex}
use Rattle.moves.specs.declared.search.Best.{Best}
use Rattle.moves.specs.declared.search.RunEdge.{RunEdge}

-- the point at place p is below the one at a vertex
abbrev pub below_at : Vertex → ℕ → Bool
below_at v p = lt_point (pt_at (point_of v) (ring_of v) p) (pt_at (point_of v) (ring_of v) (place_of v))

-- the best pair once the edges from this one on are looked at, up to the end of its run, up to which `after` edges come
abbrev pub on_from : Vertex → Best → ℕ → RunEdge → Best
on_from v b after e = looking v.points.n (point_of v) (ring_of v) (place_of v) b after e.passed e.at.id.0

-- an edge starts at a position, below the point at a vertex or not
pub record Starts (v : Vertex) (below : Bool) (q : Position) : Type 0 where
  pub on : On v q
  pub side : below ≡ below_at v q.id.0

-- The edges from s on to e are passed, and the search for the point at a vertex goes on from e as from s. Where e is not at the end, its own end lies on the other side.
pub record Beside (v : Vertex) (below : Bool) (end : ℕ) (s e : RunEdge) : Type 0 where
  pub on : On v e.at
  pub onward : s.passed ≤ e.passed
  pub same : (b : Best) (after : ℕ) → end ≤ after → on_from v b after e ≡ on_from v b after s
  pub across : e.passed < end → not below ≡ below_at v (next v.points.n e.at.id.0)
