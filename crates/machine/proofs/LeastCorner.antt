-- The least point of a ring no two edges of which meet is a corner.
use mathlib.Core.Path.{◌≡◌}
use mathlib.Core.Bool.{true, false}
use mathlib.Core.List.{List}
use mathlib.Core.Logic.{◌≢◌}
use Prim.Native.Nat.{ℕ, ◌≤◌, ◌<◌}
use Rattle.geometry.specs.Plane.{Point, turn, lt_point, collinear}
use Rattle.geometry.specs.Segment.{meets}
use Rattle.geometry.proofs.Points.{zero_is, turn_second, lt_point_flip}
use Rattle.polygon.specs.Ring.{next, prev}
use Rattle.machine.specs.Board.{pt_at, is_straight_line}
use Rattle.algebra.specs.Cases.{both, true_or_false, never}
use Rattle.polygon.proofs.Positions.{prev_lt, next_lt, next_prev, next_not, prev_not}
use Rattle.machine.proofs.Runs.{Corner}

-- two edges that go up from v on one line meet
pub fold_meets : (u v w : Point) → lt_point v u ≡ true → lt_point v w ≡ true → collinear u v w ≡ true → meets u v v w ≡ true
fold_meets u v w p q z =
    rw (zero_is (turn u v v) (turn_second u v), z, lt_point_flip v u p, q)
    (both (true_or_false (lt_point v v))
    (λ s. both (true_or_false (lt_point u w)) (λ t. rw (s, t) p) (λ t. rw (s, t) q))
    (λ s. both (true_or_false (lt_point u w)) (λ t. rw (s, t) p) (λ t. rw (s, t) q)))

module _ (n : ℕ) (pt : ℕ → Point) (r : List ℕ) (two : 2 ≤ n) (m : ℕ) (lm : m < n) (least : (i : ℕ) → i < n → i ≢ m → lt_point (pt_at pt r m) (pt_at pt r i) ≡ true)
    (none_meet : (a b : ℕ) → a < n → b < n → a ≢ b → meets (pt_at pt r a) (pt_at pt r (next n a)) (pt_at pt r b) (pt_at pt r (next n b)) ≡ false) where
  pub least_corner : Corner n pt r m
  least_corner =
      both (true_or_false (is_straight_line n pt r m))
      (λ st. never (meets (pt_at pt r (prev n m)) (pt_at pt r m) (pt_at pt r m) (pt_at pt r (next n m)))
      (fold_meets (pt_at pt r (prev n m)) (pt_at pt r m) (pt_at pt r (next n m)) (least (prev n m) (prev_lt n m lm) (prev_not n m two lm)) (least (next n m) (next_lt n m lm) (next_not n m two lm)) st)
      (rw (next_prev n m lm) at (none_meet (prev n m) m (prev_lt n m lm) lm (prev_not n m two lm))))
      (λ c. c)
