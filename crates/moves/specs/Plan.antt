-- The move that a record calls for, as the code holds it.
use Rattle.std.specs.Prelude.{◌≡◌, true, List, ◌≢◌, ℕ}
use Rattle.geometry.specs.Plane.{Point}
use Rattle.geometry.specs.Segment.{meets}
use Rattle.index_edge.specs.Edge.{Edge}
use Rattle.polygon.specs.Ring.{next}
use Rattle.polygon.specs.Edges.{IsEdge}
use Rattle.polygon.specs.Change.{Plan, uncross, hoist}
use Rattle.machine.specs.Board.{pt_at, meet_edges}
use Rattle.moves.specs.declared.plan.Move.{Move}
use Rattle.moves.specs.declared.plan.Move.TheVariants.{Uncross, Hoist}

-- The plan that a move of the code stands for.
abbrev pub plan_of : Move → Plan
plan_of (Uncross a b) = uncross a.0 b.0
plan_of (Hoist k p) = hoist k.0 p.0

-- two different edges that meet, by the positions where they start
pub record Met (n : ℕ) (pt : ℕ → Point) (r : List ℕ) (a b : ℕ) : Type 0 where
  pub apart : a ≢ b
  pub meet : meets (pt_at pt r a) (pt_at pt r (next n a)) (pt_at pt r b) (pt_at pt r (next n b)) ≡ true

-- two different ring edges that meet
pub record Crossing (n : ℕ) (pt : ℕ → Point) (r : List ℕ) (e f : Edge) : Type 0 where
  pub first : IsEdge n r e
  pub second : IsEdge n r f
  pub differ : e ≢ f
  pub meet : meet_edges pt e f ≡ true
