-- What the public entries answer, with the refusal numbers, and the answer that each has to give.
use Rattle.std.specs.Prelude.{Bool, not, ◌&&◌, cond, ℕ, zero, suc, ℤ, pos, negsuc, Option, Some, None, Result, Ok, Err}
use Rattle.refusal.specs.declared.Refusal.{Refusal}
use Rattle.refusal.specs.Number.{number_of}
use Rattle.geometry.specs.declared.orientation.Orientation.{Orientation}
use Rattle.geometry.specs.declared.orientation.Orientation.TheVariants.{CounterClockWise, ClockWise, CoLinear}
use Rattle.geometry.specs.declared.line_segment.EndPoint.{EndPoint}
use Rattle.geometry.specs.declared.line_segment.EndPoint.TheVariants.{Exclusive, Inclusive}
use Rattle.geometry.specs.declared.line_segment.ILineSegment.{ILineSegment}
use Rattle.geometry.specs.declared.line_segment.ILineSegment.TheVariants.{Crossing as CrossingSegments, Overlap as OverlapSegments}
use Rattle.geometry.specs.declared.line_segment.ContactKind.{ContactKind}
use Rattle.geometry.specs.declared.line_segment.ContactKind.TheVariants.{Crossing, Overlap}
use Rattle.geometry.specs.Plane.{Point, turn, eq_point, near_point}
use Rattle.geometry.specs.Segment.{End, exclusive, inclusive, contains, meets}
use Rattle.geometry.specs.Contact.{Kind, none, crossing, overlap, kind}
use Rattle.geometry.specs.Lent.{spot}

-- A call is refused with a number, or answered with a value.
pub data Answer (A : Type 0) : Type 0 where
  refused : ℕ → Answer A
  answered : A → Answer A

-- ---- the results, in these words
abbrev pub turn_of : Orientation → ℤ
turn_of CounterClockWise = pos 1
turn_of ClockWise = negsuc 0
turn_of CoLinear = pos 0

abbrev pub oriented_of : Result Orientation Refusal → Answer ℤ
oriented_of (Ok o) = answered (turn_of o)
oriented_of (Err r) = refused (number_of r)

abbrev pub told : {A : Type 0} → Result A Refusal → Answer A
told (Ok a) = answered a
told (Err r) = refused (number_of r)

-- an end's point, and its mark
abbrev pub end_of : EndPoint → Point
end_of (Exclusive p) = spot p
end_of (Inclusive p) = spot p

abbrev pub mark_of : EndPoint → End
mark_of (Exclusive p) = exclusive
mark_of (Inclusive p) = inclusive

-- how two segments meet, with the ends of an overlap
abbrev pub kind_of : Option ILineSegment → Kind
kind_of None = none
kind_of (Some CrossingSegments) = crossing
kind_of (Some (OverlapSegments s)) = overlap (end_of s.min) (mark_of s.min) (end_of s.max) (mark_of s.max)

-- the same without the ends
abbrev pub without_ends : Kind → Option ContactKind
without_ends none = None
without_ends crossing = Some Crossing
without_ends (overlap v m w k) = Some Overlap

abbrev pub contact_of : Result (Option ILineSegment) Refusal → Answer Kind
contact_of (Ok k) = answered (kind_of k)
contact_of (Err r) = refused (number_of r)

-- ---- the answers
-- 1, 0 or -1
abbrev pub sign : ℤ → ℤ
sign (pos zero) = pos 0
sign (pos (suc n)) = pos 1
sign (negsuc n) = negsuc 0

-- Where the check passes the answer is the value, else refusal 3.
abbrev pub checked : {A : Type 0} → Bool → A → Answer A
checked ok v = cond ok (answered v) (refused 3)

-- The orientation of three points: the sign of their turn.
abbrev pub orientation : Point → Point → Point → Answer ℤ
orientation a b c = checked (near_point a && (near_point b && near_point c)) (sign (turn a b c))

-- A segment of a public call: two different points within the limits.
abbrev pub proper : Point → Point → Bool
proper a b = (near_point a && near_point b) && not (eq_point a b)

abbrev pub containment : Point → End → Point → End → Point → Answer Bool
containment a ea b eb p = checked (proper a b && near_point p) (contains a ea b eb p)

abbrev pub meeting : Point → Point → Point → Point → Answer Bool
meeting a a' b b' = checked (proper a a' && proper b b') (meets a a' b b')

abbrev pub contact : Point → Point → Point → Point → Answer Kind
contact a a' b b' = checked (proper a a' && proper b b') (kind a a' b b')
