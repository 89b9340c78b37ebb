-- A ring that a function answers, position by position.
use Rattle.std.specs.Prelude.{◌≡◌, List, ℕ, ◌<◌}
use Rattle.index_edge.specs.declared.PointId.{PointId}
use Rattle.polygon.specs.Ring.{at}
use Rattle.polygon.specs.declared.position.PositionId.{PositionId}

-- It may be asked each position of a ring of n points, and answers the number of one of them.
pub record Names (n : ℕ) (may : PositionId → Type 0) (answers : PositionId → PointId → Type 0) : Type 0 where
  pub asked : (i : ℕ) → i < n → may (record { 0 = i })
  pub below : (i : ℕ) (id : PointId) → i < n → answers (record { 0 = i }) id → id.0 < n

-- The points that it answers are those of the ring r.
abbrev pub Tells : ℕ → (PositionId → PointId → Type 0) → List ℕ → Type 0
Tells n answers r = (i : ℕ) (id : PointId) → i < n → answers (record { 0 = i }) id → id.0 ≡ at r i
