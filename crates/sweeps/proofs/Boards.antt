-- Queries by computation: the square, whose edge at 0 crosses that at 2; and the hat, where an edge is met by one along it and by one that only touches it.
use Rattle.std.specs.Prelude.{◌≡◌, refl, List, [], ◌∷◌, ℕ, pos}
use Rattle.geometry.specs.Plane.{Point}
use Rattle.geometry.specs.Contact.{kind, overlap_of}
use Rattle.geometry.specs.Lent.{points}
use Rattle.polygon.specs.Edges.{edge_at}
use Rattle.machine.specs.Board.{kind_edges, meet_edges}
use Rattle.box_tree.specs.Boxes.{span, share}
use Rattle.box_tree.specs.Tree.{box_at}
use Rattle.sweeps.specs.Query.{contacts, tests}

-- the four points in their own order
abbrev ring : List ℕ
ring = 0 ∷ 1 ∷ 2 ∷ 3 ∷ []

abbrev square : ℕ → Point
square = points (pos 0 ∷ pos 10 ∷ pos 10 ∷ pos 0 ∷ []) (pos 0 ∷ pos 10 ∷ pos 0 ∷ pos 10 ∷ [])

abbrev hat : ℕ → Point
hat = points (pos 0 ∷ pos 4 ∷ pos 2 ∷ pos 2 ∷ []) (pos 0 ∷ pos 0 ∷ pos 0 ∷ pos 3 ∷ [])

square_contacts : contacts 4 square ring (edge_at 4 ring 0) ≡ 2 ∷ []
unfolding contacts meet_edges kind_edges kind overlap_of
square_contacts = refl

square_tests : tests 4 square ring (edge_at 4 ring 0) ≡ 3
unfolding tests box_at span share
square_tests = refl

hat_contacts : contacts 4 hat ring (edge_at 4 ring 0) ≡ 1 ∷ 2 ∷ []
unfolding contacts meet_edges kind_edges kind overlap_of
hat_contacts = refl

-- the edge at 2 stands on a box that is no wider than a line
hat_tests : tests 4 hat ring (edge_at 4 ring 2) ≡ 3
unfolding tests box_at span share
hat_tests = refl
