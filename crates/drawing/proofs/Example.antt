-- Three loops, from their pads in micrometres to all that is printed, by computation.
use mathlib.Core.Path.{◌≡◌, refl}
use mathlib.Core.List.{[], ◌∷◌}
use lib.IntN.{pos}
use Rattle.integer_root.specs.Root.{root, root_to}
use Rattle.geometry.specs.Contact.{overlap_of, kind}
use Rattle.geometry.specs.Plane.{squared_distance}
use Rattle.machine.specs.Board.{kind_edges, meet_edges}
use Rattle.job.specs.Ascii.{ascii}
use Rattle.job.specs.Decimal.{digits, decimal}
use Rattle.job.specs.Feed.{feed_between, edge_feed}
use Rattle.job.specs.Steps.{steps}
use Rattle.job.specs.Text.{edge_name, refused_line}
use Rattle.validate.specs.Drawn.{validated}
use Rattle.drawing.specs.Printed.{passed_line, contact_line, told, printed}

-- 40 by 30 steps: the feed is the way around
pub passes : printed (pos 0 ∷ pos 400 ∷ pos 400 ∷ pos 4 ∷ []) (pos 0 ∷ pos 0 ∷ pos 304 ∷ pos 296 ∷ []) ≡ ascii "ok 4 feed 140\n"
unfolding printed told passed_line validated steps decimal digits edge_feed feed_between squared_distance root root_to meet_edges kind_edges kind overlap_of
passes = refl

-- a bow-tie
pub crosses : printed (pos 0 ∷ pos 100 ∷ pos 0 ∷ pos 100 ∷ []) (pos 0 ∷ pos 0 ∷ pos 100 ∷ pos 100 ∷ []) ≡ ascii "refused 15\nedge 1 2 crosses edge 0 3\n"
unfolding printed told contact_line edge_name refused_line validated steps decimal digits meet_edges kind_edges kind overlap_of
crosses = refl

-- an edge that goes back along the one before it
pub overlaps : printed (pos 0 ∷ pos 40 ∷ pos 20 ∷ pos 20 ∷ []) (pos 0 ∷ pos 0 ∷ pos 0 ∷ pos 30 ∷ []) ≡ ascii "refused 15\nedge 0 1 overlaps edge 1 2\n"
unfolding printed told contact_line edge_name refused_line validated steps decimal digits meet_edges kind_edges kind overlap_of
overlaps = refl
