-- Points past the n-th are never asked: so the first n of the lent points are as good as all of them.
use Rattle.std.specs.Prelude.{◌≡◌, List, ℕ, ℤ, pos, take}
use Rattle.std.specs.Int.Signed.{lt_z}
use Rattle.std.proofs.lemmas.List.{get_or-take}
use Rattle.geometry.specs.Plane.{Point, turn, eq_point, lt_point, collinear, near_point}
use Rattle.geometry.specs.Lent.{points}
use Rattle.machine.specs.Answer.{in_range}
use Rattle.alike.specs.Same.{SamePoints, SameRuns}
use Rattle.alike.proofs.Tests.{Alike}
use Rattle.alike.proofs.Runs.{all_same, same_runs}

abbrev Equal : Point → Point → Type 0
Equal a b = b ≡ a

equal_alike : Alike Equal
equal_alike = record {
  order = λ ra rb i. lt_point (ra i) (rb i);
  equal = λ ra rb i. eq_point (ra i) (rb i);
  left = λ ra rb rc i. lt_z (pos 0) (turn (ra i) (rb i) (rc i));
  right = λ ra rb rc i. lt_z (turn (ra i) (rb i) (rc i)) (pos 0);
  line = λ ra rb rc i. collinear (ra i) (rb i) (rc i);
}

-- Boards with the same points below n have the same runs.
pub same_below : (n : ℕ) (pt qt : ℕ → Point) → SamePoints n pt qt → SameRuns n pt qt
same_below n pt qt same = same_runs Equal equal_alike n pt qt same range
  where
    range : in_range n qt ≡ in_range n pt
    range = all_same n _ _ (λ i l x. near_point (same i l x))

-- The first n entries of x and y have the same points below n as x and y, however long these are.
pub points_below : (n : ℕ) (x y : List ℤ) → SamePoints n (points x y) (points (take n x) (take n y))
points_below n x y i l = λ k. record { x = get_or-take n x i (pos 0) l k; y = get_or-take n y i (pos 0) l k }
