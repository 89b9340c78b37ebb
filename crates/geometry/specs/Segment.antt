-- Segments: what a segment contains, and when two segments meet. Each comes in document 01's words and as a test that computes.
use Rattle.std.specs.Prelude.{◌≡◌, Bool, true, false, not, ◌&&◌, ◌||◌, cond, ◌⊎◌, ◌≢◌, ℤ, pos, ◌+ℤ◌, ◌-ℤ◌, ◌*ℤ◌, ◌≤ℤ◌, ◌<ℤ◌}
use Rattle.std.specs.Int.Signed.{lt_z}
use Rattle.geometry.specs.Plane.{Point, turn, Before, eq_point, lt_point, min_point, max_point, collinear}

-- ---- contains
-- An end of a segment is marked open (exclusive) or closed (inclusive).
pub data End : Type 0 where
  exclusive : End
  inclusive : End

abbrev pub is_open : End → Bool
is_open exclusive = true
is_open inclusive = false

-- a is p or comes before it
abbrev pub NotAfter : Point → Point → Type 0
NotAfter a p = (a ≡ p) ⊎ Before a p

-- The segment from a to b contains p: collinear with its ends and between them in point order, an open end itself left out.
pub record Contains (a : Point) (ea : End) (b : Point) (eb : End) (p : Point) : Type 0 where
  pub on_line : turn a b p ≡ pos 0
  pub between : (NotAfter a p × NotAfter p b) ⊎ (NotAfter b p × NotAfter p a)
  pub not_first : ea ≡ exclusive → p ≢ a
  pub not_second : eb ≡ exclusive → p ≢ b

-- whether an end at a lets p pass: an open one leaves itself out
abbrev pub admits : End → Point → Point → Bool
admits exclusive a p = not (eq_point p a)
admits inclusive a p = true

-- from the lesser of a and b to the greater, in point order
abbrev pub between : Point → Point → Point → Bool
between a b p = not (lt_point p (min_point a b)) && not (lt_point (max_point a b) p)

-- the test
abbrev pub contains : Point → End → Point → End → Point → Bool
contains a ea b eb p = collinear a b p && (between a b p && (admits ea a p && admits eb b p))

-- ---- strictly inside
-- d times the place at s/d of the way from u to v
abbrev pub way : ℤ → ℤ → ℤ → ℤ → ℤ
way d s u v = d *ℤ u +ℤ s *ℤ (v -ℤ u)

-- v is strictly inside the segment from a to b: d·v = d·a + s·(b - a) in both coordinates, for whole numbers 0 < s < d.
pub record Inside (a b v : Point) : Type 0 where
  pub d : ℤ
  pub s : ℤ
  pub s> : pos 0 <ℤ s
  pub s< : s <ℤ d
  pub at_x : d *ℤ v.x ≡ way d s a.x b.x
  pub at_y : d *ℤ v.y ≡ way d s a.y b.y

-- the test: strictly between its ends in point order
abbrev pub inside : Point → Point → Point → Bool
inside a b p = collinear a b p && (lt_point (min_point a b) p && lt_point p (max_point a b))

-- ---- meets
-- Whole numbers d > 0, s and t from 0 to d with d·a₁ + s·(a₂ - a₁) = d·b₁ + t·(b₂ - b₁) in both coordinates.
pub record CommonPlace (a₁ a₂ b₁ b₂ : Point) : Type 0 where
  pub d : ℤ
  pub s : ℤ
  pub t : ℤ
  pub d> : pos 0 <ℤ d
  pub s≥ : pos 0 ≤ℤ s
  pub s≤ : s ≤ℤ d
  pub t≥ : pos 0 ≤ℤ t
  pub t≤ : t ≤ℤ d
  pub at_x : way d s a₁.x a₂.x ≡ way d t b₁.x b₂.x
  pub at_y : way d s a₁.y a₂.y ≡ way d t b₁.y b₂.y

-- v is an end of the segment from a to a'
abbrev pub Ends : Point → Point → Point → Type 0
Ends v a a' = (v ≡ a) ⊎ (v ≡ a')

-- v is that place
abbrev pub StandsAt : {a a' b b' : Point} → CommonPlace a a' b b' → Point → Type 0
StandsAt {a} {a'} m v = (m.d *ℤ v.x ≡ way m.d m.s a.x a'.x) × (m.d *ℤ v.y ≡ way m.d m.s a.y a'.y)

-- Two segments meet: they have a place in common that is not a vertex that ends both. Ends at equal points are one vertex.
pub record Meet (a a' b b' : Point) : Type 0 where
  pub place : CommonPlace a a' b b'
  pub no_vertex : (v : Point) → Ends v a a' → Ends v b b' → ¬ (StandsAt place v)

-- both strictly on one side
abbrev pub same_side : ℤ → ℤ → Bool
same_side p q = (lt_z (pos 0) p && lt_z (pos 0) q) || (lt_z p (pos 0) && lt_z q (pos 0))

-- the two have an end in common
abbrev pub shared : Point → Point → Point → Point → Bool
shared a a' b b' = (eq_point a b || eq_point a b') || (eq_point a' b || eq_point a' b')

-- all four on one line
abbrev pub parallel : Point → Point → Point → Point → Bool
parallel a a' b b' = collinear a a' b && collinear a a' b'

-- on one line, more than an end in common
abbrev pub overlap : Point → Point → Point → Point → Bool
overlap a a' b b' = lt_point (max_point (min_point a a') (min_point b b')) (min_point (max_point a a') (max_point b b'))

-- the test
abbrev pub meets : Point → Point → Point → Point → Bool
meets a a' b b' =
    cond (parallel a a' b b')
    (overlap a a' b b')
    (not (shared a a' b b') && (not (same_side (turn a a' b) (turn a a' b')) && not (same_side (turn b b' a) (turn b b' a'))))
