-- Turns as polynomials, and their identities.
use mathlib.Core.Path.{◌≡◌}
use mathlib.Core.List.{List, [], ◌∷◌}
use Prim.Native.Nat.{ℕ}
use lib.IntN.{ℤ, neg_ℤ, ◌+ℤ◌}
use Rattle.algebra.specs.Polynomials.{E, var, ◌:+◌, ◌:-◌, ◌:*◌, neg, solve}
use Rattle.algebra.specs.Identities.{PairE}
use Rattle.geometry.specs.Plane.{Point, turn}

abbrev pub point_edge : ℕ → ℕ → PairE
point_edge i j = record { ex = var i; ey = var j }

abbrev pub turn_of_edge : PairE → PairE → PairE → E
turn_of_edge a b c = (b.ex :- a.ex) :* (c.ey :- a.ey) :- (b.ey :- a.ey) :* (c.ex :- a.ex)

abbrev pub A : PairE
A = point_edge 0 1

abbrev pub B : PairE
B = point_edge 2 3

abbrev pub C : PairE
C = point_edge 4 5

abbrev pub D : PairE
D = point_edge 6 7

abbrev pub pts : Point → Point → Point → Point → List ℤ
pts a b c d = a.x ∷ a.y ∷ b.x ∷ b.y ∷ c.x ∷ c.y ∷ d.x ∷ d.y ∷ []

pub turn_swap : (a b c : Point) → turn a b c ≡ neg_ℤ (turn b a c)
turn_swap a b c = solve (turn_of_edge A B C) (neg (turn_of_edge B A C)) (pts a b c a) tt

-- a a' b b' are A B C D
pub four : (a a' b b' : Point) → turn a a' b +ℤ turn b b' a ≡ turn a a' b' +ℤ turn b b' a'
four a a' b b' = solve (turn_of_edge A B C :+ turn_of_edge C D A) (turn_of_edge A B D :+ turn_of_edge C D B) (pts a a' b b') tt
