-- Drawn rings by computation: what passes, what turn refuses, and what meets.
use Rattle.std.specs.Prelude.{◌≡◌, refl, false, List, [], ◌∷◌, ℕ, pos}
use Rattle.geometry.specs.Plane.{Point}
use Rattle.geometry.specs.Contact.{kind, overlap_of}
use Rattle.geometry.specs.Lent.{points}
use Rattle.machine.specs.Board.{kind_edges, meet_edges}
use Rattle.machine.specs.Answer.{refusal}
use Rattle.checks.specs.Checks.{first_six}
use Rattle.validate.specs.Drawn.{passed, refused, meeting, check}

-- a ring that names four points, and the board of each case
abbrev named : ℕ → ℕ → ℕ → ℕ → List ℕ
named a b c d = a ∷ b ∷ c ∷ d ∷ []

abbrev in_order : List ℕ
in_order = named 0 1 2 3

abbrev square : ℕ → Point
square = points (pos 0 ∷ pos 10 ∷ pos 10 ∷ pos 0 ∷ []) (pos 0 ∷ pos 10 ∷ pos 0 ∷ pos 10 ∷ [])

abbrev line : ℕ → Point
line = points (pos 0 ∷ pos 1 ∷ pos 2 ∷ pos 3 ∷ []) (pos 0 ∷ pos 0 ∷ pos 0 ∷ pos 0 ∷ [])

abbrev spike : ℕ → Point
spike = points (pos 0 ∷ pos 4 ∷ pos 2 ∷ pos 2 ∷ []) (pos 0 ∷ pos 0 ∷ pos 0 ∷ pos 3 ∷ [])

abbrev triangle : ℕ → Point
triangle = points (pos 0 ∷ pos 1 ∷ pos 0 ∷ []) (pos 0 ∷ pos 0 ∷ pos 1 ∷ [])

-- three points pass; so does a square, counter-clockwise from each of two corners
pub passing : (check 3 triangle (0 ∷ 1 ∷ 2 ∷ []) false ≡ passed) × (check 4 square (named 0 2 1 3) false ≡ passed) × (check 4 square (named 1 3 0 2) false ≡ passed)
unfolding meet_edges kind_edges kind overlap_of
passing = (refl, refl, refl)

-- it is refused clockwise, and before what meets is asked: a bow-tie that turns clockwise
pub clockwise : (check 4 square (named 3 1 2 0) false ≡ refused 14) × (check 4 square (named 3 2 1 0) false ≡ refused 14)
clockwise = (refl, refl)

-- points on one line pass the first six checks, and turn refuses them, where a call refuses by 7
pub on_line : (first_six 4 line false false in_order ≡ 0) × (check 4 line in_order false ≡ refused 14) × (refusal 4 line false false in_order ≡ 7)
on_line = (refl, refl, refl)

-- a bow-tie that turns counter-clockwise; a spike, whose edge at 1 goes back over that at 0, which the edge at 2 touches too
pub meetings : (check 4 square in_order false ≡ meeting 0 2) × (check 4 spike in_order false ≡ meeting 0 1)
unfolding meet_edges kind_edges kind overlap_of
meetings = (refl, refl)
