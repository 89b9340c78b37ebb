-- The lesser of two ring points.
use Rattle.std.specs.Prelude.{cond, List, ℕ}
use Rattle.geometry.specs.Plane.{Point, lt_point}
use Rattle.machine.specs.Board.{pt_at}

-- of two positions, that of the lesser point, the second if neither is
abbrev pub lesser_at : (ℕ → Point) → List ℕ → ℕ → ℕ → ℕ
lesser_at pt r i j = cond (lt_point (pt_at pt r i) (pt_at pt r j)) i j
