-- The points of a call, by number.
use Rattle.std.specs.Prelude.{ℕ}
use Rattle.geometry.specs.Plane.{Point}
use Rattle.geometry.specs.Lent.{points}
use Rattle.geometry.specs.declared.lent.Points.{Points}

-- point number i
abbrev pub spots : Points → ℕ → Point
spots p = points p.x.now p.y.now
