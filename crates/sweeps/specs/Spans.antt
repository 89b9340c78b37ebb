-- What a segment carries of its edge.
use Rattle.std.specs.Prelude.{◌≡◌, ℕ, ℤ}
use Rattle.geometry.specs.Plane.{Point, min_point, max_point}
use Rattle.geometry.specs.Lent.{order_key}
use Rattle.index_edge.specs.Edge.{Edge}

-- its points are those that the edge names, and its keys those of the lesser and the greater
pub record Spans (pt : ℕ → Point) (e : Edge) (min max : Point) (low high : ℤ) : Type 0 where
  pub first : min ≡ pt e.lo
  pub second : max ≡ pt e.hi
  pub least : low ≡ order_key (min_point (pt e.lo) (pt e.hi))
  pub greatest : high ≡ order_key (max_point (pt e.lo) (pt e.hi))
