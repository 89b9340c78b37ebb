-- A board: the points by number, and what is asked of them. Vertices of a ring, and how the ring turns there.
use Rattle.std.specs.Prelude.{◌≡◌, Bool, not, List, ℕ, ◌≤◌, ◌<◌, ℤ, pos}
use Rattle.geometry.specs.Plane.{Point, turn, collinear}
use Rattle.geometry.specs.Segment.{inside}
use Rattle.geometry.specs.Contact.{Kind, kind, some_contact}
use Rattle.index_edge.specs.Edge.{Edge}
use Rattle.polygon.specs.Ring.{next, prev, at}

-- no two points are equal
abbrev pub Distinct : ℕ → (ℕ → Point) → Type 0
Distinct n pt = (x y : ℕ) → x < n → y < n → pt x ≡ pt y → x ≡ y

-- all points lie on one line
abbrev pub AllOnLine : ℕ → (ℕ → Point) → Type 0
AllOnLine n pt = (x y z : ℕ) → x < n → y < n → z < n → turn (pt x) (pt y) (pt z) ≡ pos 0

-- A board has at least three points, no two equal, not all on one line.
pub record Board (n : ℕ) (pt : ℕ → Point) : Type 0 where
  pub three : 3 ≤ n
  pub distinct : Distinct n pt
  pub not_line : ¬ (AllOnLine n pt)

-- the point at a ring position
abbrev pub pt_at : (ℕ → Point) → List ℕ → ℕ → Point
pt_at pt r i = pt (at r i)

-- How two edges meet, by the ends that their numbers name.
unfoldable pub kind_edges : (ℕ → Point) → Edge → Edge → Kind
kind_edges pt e f = kind (pt e.lo) (pt e.hi) (pt f.lo) (pt f.hi)

-- Two edges meet: the kind of their contact is not none.
unfoldable pub meet_edges : (ℕ → Point) → Edge → Edge → Bool
meet_edges pt e f = some_contact (kind_edges pt e f)

module _ (n : ℕ) (pt : ℕ → Point) (r : List ℕ) (i : ℕ) where
  -- A ring point turns as the point before it, itself and the point after it do.
  abbrev pub turn_at : ℤ
  turn_at = turn (pt_at pt r (prev n i)) (pt_at pt r i) (pt_at pt r (next n i))

  -- a vertex collinear with its neighbours; any other is a corner
  abbrev pub is_straight_line : Bool
  is_straight_line = collinear (pt_at pt r (prev n i)) (pt_at pt r i) (pt_at pt r (next n i))

  -- A kink is not strictly between its neighbours on a line.
  abbrev pub kink_at : Bool
  kink_at = not (inside (pt_at pt r (prev n i)) (pt_at pt r (next n i)) (pt_at pt r i))
