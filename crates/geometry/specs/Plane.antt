-- Points of the plane, the turn of three points, how far apart two are, and the order of points.
use Rattle.std.specs.Prelude.{◌≡◌, Bool, false, ◌&&◌, ◌||◌, cond, ◌⊎◌, ℕ, ◌+◌, ◌*◌, ℤ, pos, negsuc, ◌-ℤ◌, ◌*ℤ◌, ◌<ℤ◌, eqb}
use Rattle.std.specs.Int.Signed.{le_z, lt_z}
use Rattle.algebra.specs.Size.{abs}
pub use Rattle.algebra.specs.Identities.{Pair as Point}

-- The turn of a, b, c: positive counter-clockwise, negative clockwise, zero collinear.
abbrev pub turn : Point → Point → Point → ℤ
turn a b c = (b.x -ℤ a.x) *ℤ (c.y -ℤ a.y) -ℤ (b.y -ℤ a.y) *ℤ (c.x -ℤ a.x)

-- The square of the distance of a and b: dx×dx + dy×dy.
unfoldable pub squared_distance : Point → Point → ℕ
squared_distance a b = abs (a.x -ℤ b.x) * abs (a.x -ℤ b.x) + abs (a.y -ℤ b.y) * abs (a.y -ℤ b.y)

-- Points order by x, then y.
abbrev pub Before : Point → Point → Type 0
Before a b = (a.x <ℤ b.x) ⊎ ((a.x ≡ b.x) × (a.y <ℤ b.y))

-- ---- the same, as tests
abbrev pub is_zero : ℤ → Bool
is_zero (pos n) = eqb n 0
is_zero (negsuc n) = false

abbrev pub eq_int : ℤ → ℤ → Bool
eq_int (pos a) (pos b) = eqb a b
eq_int (pos a) (negsuc b) = false
eq_int (negsuc a) (pos b) = false
eq_int (negsuc a) (negsuc b) = eqb a b

abbrev pub eq_point : Point → Point → Bool
eq_point a b = eq_int a.x b.x && eq_int a.y b.y

abbrev pub lt_point : Point → Point → Bool
lt_point a b = lt_z a.x b.x || (eq_int a.x b.x && lt_z a.y b.y)

-- the lesser and the greater of two points
abbrev pub min_point : Point → Point → Point
min_point a b = cond (lt_point a b) a b

abbrev pub max_point : Point → Point → Point
max_point a b = cond (lt_point a b) b a

abbrev pub collinear : Point → Point → Point → Bool
collinear a b c = is_zero (turn a b c)

-- A coordinate within the limits: from -1,000,000,000 to 1,000,000,000.
abbrev pub near : ℤ → Bool
near z = le_z (negsuc 999999999) z && le_z z (pos 1000000000)

abbrev pub near_point : Point → Bool
near_point a = near a.x && near a.y
