-- Boxes with sides along the axes, each by its least and its greatest x and y.
use Rattle.std.specs.Prelude.{Bool, ◌&&◌, ℤ, ◌≤ℤ◌}
use Rattle.std.specs.Int.{int_min, int_max}
use Rattle.std.specs.Int.Signed.{le_z}
use Rattle.geometry.specs.Plane.{Point}

pub record Bounds : Type 0 where
  pub left : ℤ
  pub low : ℤ
  pub right : ℤ
  pub high : ℤ

-- the box of a segment
unfoldable pub span : Point → Point → Bounds
span a b = record { left = int_min a.x b.x; low = int_min a.y b.y; right = int_max a.x b.x; high = int_max a.y b.y }

-- the union of two boxes: the least box around both
unfoldable pub unite : Bounds → Bounds → Bounds
unite a b = record { left = int_min a.left b.left; low = int_min a.low b.low; right = int_max a.right b.right; high = int_max a.high b.high }

-- a place in a box
pub record Covers (b : Bounds) (p : Point) : Type 0 where
  pub left : b.left ≤ℤ p.x
  pub right : p.x ≤ℤ b.right
  pub low : b.low ≤ℤ p.y
  pub high : p.y ≤ℤ b.high

-- Two boxes share a place.
abbrev pub Share : Bounds → Bounds → Type 0
Share a b = (p : Point) × Covers a p × Covers b p

-- The same as a test: neither lies wholly to one side of the other.
unfoldable pub share : Bounds → Bounds → Bool
share a b = (le_z a.left b.right && le_z b.left a.right) && (le_z a.low b.high && le_z b.low a.high)
