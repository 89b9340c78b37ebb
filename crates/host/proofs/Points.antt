-- A point of two 32-bit numbers is at these numbers.
use mathlib.Core.Path.{◌≡◌, ◌∙◌}
use lib.IntN.{ℤ}
use mir.Syntax.{w32}
use mir.Val.{SFits, of_z, to_z}
use mir.ValLaws.{to_z-of_z}
use Rattle.geometry.specs.Plane.{Point}

pub exact : {x y : ℤ} {p : Point} → SFits w32 x → SFits w32 y → p ≡ record { x = to_z w32 (of_z w32 x); y = to_z w32 (of_z w32 y) } → p ≡ record { x = x; y = y }
exact {x} {y} f g e = e ∙ (λ t. record { x = to_z-of_z w32 x f t; y = to_z-of_z w32 y g t })
