-- What a `Position` and a fault of the code stand for.
use Rattle.std.specs.Prelude.{◌≡◌, ◌≢◌, List, ℕ, ◌<◌, length, Option as Found, Some, None}
use Rattle.std.proofs.Math.Option.{Option, none, some}
use Rattle.polygon.specs.declared.position.Position.{Position}
use Rattle.polygon.specs.declared.position.PositionId.{PositionId}

-- position i of a ring of n points
abbrev pub position : ℕ → ℕ → Position
position n i = record { id = record { 0 = i }; size = n }

-- Two positions of one ring.
pub record Both (p q : Position) : Type 0 where
  pub same : q.size ≡ p.size
  pub first : p.id.0 < p.size
  pub second : q.id.0 < p.size

-- Two different positions of one ring.
pub record Apart (p q : Position) : Type 0 where
  pub same : q.size ≡ p.size
  pub first : p.id.0 < p.size
  pub second : q.id.0 < p.size
  pub differ : p.id.0 ≢ q.id.0

-- of this one
abbrev pub ApartOn : List ℕ → Position → Position → Type 0
ApartOn r p q = (p.size ≡ length r) × Apart p q

-- the position at fault, or none
abbrev pub fault_of : Found PositionId → Option ℕ
fault_of (Some position) = some position.0
fault_of None = none
