-- Document 01's boards on meeting, as bare calls, where ends at equal points are one vertex, each with the kind of its contact; folds, crosses and equal
-- segments; and document 01's limit of a coordinate. All by computation.
use mathlib.Core.Path.{◌≡◌, refl}
use Prim.Native.Nat.{ℕ}
use lib.IntN.{pos}
use Rattle.geometry.specs.Plane.{Point}
use Rattle.geometry.specs.Segment.{exclusive, inclusive}
use Rattle.geometry.specs.Contact.{none, crossing, overlap, overlap_of, kind}
use Rattle.geometry.specs.Answers.{answered, refused, contact}

abbrev at : ℕ → ℕ → Point
at x y = record { x = pos x; y = pos y }

-- document 01's: a touch, a fold, and two segments that follow each other
pub boards : (contact (at 0 0) (at 4 0) (at 2 0) (at 2 3) ≡ answered crossing)
    × (contact (at 0 0) (at 4 0) (at 4 0) (at 2 0) ≡ answered (overlap (at 2 0) inclusive (at 4 0) exclusive))
    × (contact (at 0 0) (at 2 0) (at 2 0) (at 4 0) ≡ answered none)
unfolding kind overlap_of
boards = (refl, refl, refl)

-- a cross; two equal segments, also turned; one inside the other; a part of each
pub kinds : (contact (at 0 0) (at 2 2) (at 0 2) (at 2 0) ≡ answered crossing)
    × (contact (at 0 0) (at 4 0) (at 0 0) (at 4 0) ≡ answered (overlap (at 0 0) exclusive (at 4 0) exclusive))
    × (contact (at 0 0) (at 4 0) (at 4 0) (at 0 0) ≡ answered (overlap (at 0 0) exclusive (at 4 0) exclusive))
    × (contact (at 0 0) (at 0 4) (at 0 3) (at 0 1) ≡ answered (overlap (at 0 1) inclusive (at 0 3) inclusive))
    × (contact (at 0 0) (at 3 3) (at 5 5) (at 1 1) ≡ answered (overlap (at 1 1) inclusive (at 3 3) inclusive))
unfolding kind overlap_of
kinds = (refl, refl, refl, refl, refl)

-- no contact: an end in common off one line, and side by side
pub apart : (contact (at 0 0) (at 4 0) (at 4 0) (at 4 3) ≡ answered none) × (contact (at 0 0) (at 4 0) (at 0 1) (at 4 1) ≡ answered none)
unfolding kind overlap_of
apart = (refl, refl)

-- the limit, one past it, and equal ends
pub limits : (contact (at 0 0) (at 1000000000 0) (at 2 0) (at 2 3) ≡ answered crossing)
    × (contact (at 0 0) (at 1000000001 0) (at 2 0) (at 2 3) ≡ refused 3)
    × (contact (at 0 0) (at 0 0) (at 2 0) (at 2 3) ≡ refused 3)
unfolding kind overlap_of
limits = (refl, refl, refl)
