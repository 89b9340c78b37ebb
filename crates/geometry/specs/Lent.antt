-- Points as the code holds them: by value, or by number in the lent x and y.
use Rattle.std.specs.Prelude.{◌≡◌, true, List, ℕ, ◌≤◌, ◌<◌, ℤ, pos, ◌+ℤ◌, ◌*ℤ◌, length, get_or}
use Rattle.geometry.specs.declared.point.Point.{Point as PointValue}
use Rattle.geometry.specs.Plane.{Point, near}

-- the place of a point that is held by value
abbrev pub spot : PointValue → Point
spot p = record { x = p.x; y = p.y }

-- a number that orders the points within the limits as `lt_point` does
abbrev pub order_key : Point → ℤ
order_key a = a.x *ℤ pos 4294967296 +ℤ a.y

-- what stands at a place of a list, and 0 past its end
abbrev pub coord : List ℤ → ℕ → ℤ
coord l i = get_or l i (pos 0)

-- point number i
abbrev pub points : List ℤ → List ℤ → ℕ → Point
points x y i = record { x = coord x i; y = coord y i }

-- a point within the limits
pub record InRange (p : Point) : Type 0 where
  pub nx : near p.x ≡ true
  pub ny : near p.y ≡ true

-- point number i is lent, and within the limits
pub record Here (x y : List ℤ) (i : ℕ) : Type 0 where
  pub lx : i < length x
  pub ly : i < length y
  pub nx : near (coord x i) ≡ true
  pub ny : near (coord y i) ≡ true

-- so are the first n
pub record Lent (n : ℕ) (x y : List ℤ) : Type 0 where
  pub few : n ≤ 256
  pub lx : n ≤ length x
  pub ly : n ≤ length y
  pub nx : (i : ℕ) → i < n → near (coord x i) ≡ true
  pub ny : (i : ℕ) → i < n → near (coord y i) ≡ true
