-- What is printed of a loop that was drawn by hand.
use Rattle.std.specs.Prelude.{Bool, true, false, cond, List, ◌++◌, map, ℕ, ℤ, length}
use Rattle.algebra.specs.Ranges.{up_from}
use Rattle.geometry.specs.Plane.{Point}
use Rattle.geometry.specs.Contact.{Kind, overlap}
use Rattle.geometry.specs.Lent.{points}
use Rattle.index_edge.specs.Edge.{Edge}
use Rattle.polygon.specs.Edges.{edge_at}
use Rattle.machine.specs.Board.{kind_edges}
use Rattle.job.specs.Ascii.{ascii}
use Rattle.job.specs.Decimal.{decimal}
use Rattle.job.specs.Feed.{feed_of}
use Rattle.job.specs.Steps.{steps}
use Rattle.job.specs.Text.{edge_name, refused_line}
use Rattle.validate.specs.Drawn.{Check, passed, refused, meeting, validated}

-- the line `ok N feed F` of a loop of n pads
unfoldable pub passed_line : (n f : ℕ) → List ℕ
passed_line n f = ascii "ok " ++ (decimal n ++ (ascii " feed " ++ (decimal f ++ ascii "\n")))

-- Edges that meet overlap along a part, or cross in one place.
abbrev pub is_overlap : Kind → Bool
is_overlap (overlap v m w k) = true
is_overlap k = false

abbrev pub verb : Bool → List ℕ
verb along_a_part = cond along_a_part (ascii " overlaps ") (ascii " crosses ")

-- the line `edge A B crosses edge C D`, or `edge A B overlaps edge C D`, by their kind of contact
unfoldable pub contact_line : Edge → Kind → Edge → List ℕ
contact_line e k f = edge_name e ++ (verb (is_overlap k) ++ (edge_name f ++ ascii "\n"))

-- The text of what is found of a loop over n points, by number, in the order of the ring r: it passes; or it is refused, with 15 by two edges that meet.
unfoldable pub told : ℕ → (ℕ → Point) → List ℕ → Check → List ℕ
told n pt r passed = passed_line n (feed_of pt r)
told n pt r (refused k) = refused_line k
told n pt r (meeting i j) = let e = edge_at n r i in let f = edge_at n r j in refused_line 15 ++ contact_line e (kind_edges pt e f) f

-- The text of the loop through pads at x and y, in micrometres, in their own order. Its points are the pads rounded to steps.
unfoldable pub printed : (x y : List ℤ) → List ℕ
printed x y =
    let n = length x in
    let r = up_from 0 n in
    told n (points (map steps x) (map steps y)) r (validated n (map steps x) (map steps y) r)
