-- The kind of contact of two segments: none, a crossing in one place, or an overlap in more, with its two ends and their marks. In document 01's
-- words, and as a test that computes.
use Rattle.std.specs.Prelude.{◌≡◌, Bool, true, false, ◌&&◌, ◌||◌, cond, ◌*ℤ◌}
use Rattle.geometry.specs.Plane.{Point, eq_point, min_point, max_point}
use Rattle.geometry.specs.Segment.{End, exclusive, inclusive, CommonPlace, way, Ends, Meet, parallel, meets}

pub data Kind : Type 0 where
  none : Kind
  crossing : Kind
  -- from one end to the other, each with its mark
  overlap : Point → End → Point → End → Kind

-- ---- in words
-- Two common places are one: each is a fraction of the way along the first segment, p/d and q/e, and p·e = q·d in both coordinates.
abbrev pub SamePlace : {a a' b b' : Point} → CommonPlace a a' b b' → CommonPlace a a' b b' → Type 0
SamePlace {a} {a'} m k =
    (k.d *ℤ way m.d m.s a.x a'.x ≡ m.d *ℤ way k.d k.s a.x a'.x)
    × (k.d *ℤ way m.d m.s a.y a'.y ≡ m.d *ℤ way k.d k.s a.y a'.y)

-- A crossing: they meet, and all places where they do are one.
pub record Crossing (a a' b b' : Point) : Type 0 where
  pub meet : Meet a a' b b'
  pub one : (m k : Meet a a' b b') → SamePlace m.place k.place

-- An overlap: they meet in two different places.
pub record Overlap (a a' b b' : Point) : Type 0 where
  pub first : Meet a a' b b'
  pub second : Meet a a' b b'
  pub differ : ¬ (SamePlace first.place second.place)

-- The lesser end of a segment is its start, the greater its end. An overlap goes from the greater of the two starts
abbrev pub start_of : Point → Point → Point → Point → Point
start_of a a' b b' = max_point (min_point a a') (min_point b b')

-- to the lesser of the two ends.
abbrev pub stop_of : Point → Point → Point → Point → Point
stop_of a a' b b' = min_point (max_point a a') (max_point b b')

-- A mark is open exactly where v is a vertex that ends both.
abbrev pub OpenIf : Point → Point → Point → Point → Point → End → Type 0
OpenIf a a' b b' v m = (m ≡ exclusive → Ends v a a' × Ends v b b') × (Ends v a a' × Ends v b b' → m ≡ exclusive)

-- v with the mark m and w with the mark k are the ends of the overlap.
pub record Span (a a' b b' v : Point) (m : End) (w : Point) (k : End) : Type 0 where
  pub start : v ≡ start_of a a' b b'
  pub stop : w ≡ stop_of a a' b b'
  pub start_open : OpenIf a a' b b' v m
  pub stop_open : OpenIf a a' b b' w k

-- Two segments have a kind of contact.
abbrev pub HasKind : Point → Point → Point → Point → Kind → Type 0
HasKind a a' b b' none = ¬ (Meet a a' b b')
HasKind a a' b b' crossing = Crossing a a' b b'
HasKind a a' b b' (overlap v m w k) = Overlap a a' b b' × Span a a' b b' v m w k

-- ---- the test
-- whether v ends both segments
abbrev pub ends_both : Point → Point → Point → Point → Point → Bool
ends_both a a' b b' v = (eq_point v a || eq_point v a') && (eq_point v b || eq_point v b')

-- the mark of an end of an overlap
abbrev pub mark_at : Point → Point → Point → Point → Point → End
mark_at a a' b b' v = cond (ends_both a a' b b' v) exclusive inclusive

-- the overlap of two segments on one line
unfoldable pub overlap_of : Point → Point → Point → Point → Kind
overlap_of a a' b b' = overlap (start_of a a' b b') (mark_at a a' b b' (start_of a a' b b')) (stop_of a a' b b') (mark_at a a' b b' (stop_of a a' b b'))

-- Segments that meet overlap on one line, and cross off it.
unfoldable pub kind : Point → Point → Point → Point → Kind
kind a a' b b' = cond (meets a a' b b') (cond (parallel a a' b b') (overlap_of a a' b b') crossing) none

-- a kind that is not none
abbrev pub some_contact : Kind → Bool
some_contact none = false
some_contact crossing = true
some_contact (overlap v m w k) = true
