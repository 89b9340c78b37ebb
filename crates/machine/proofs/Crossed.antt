-- Two ring edges that cross: their positions are no neighbours, and the two edges laid for them do not meet.
use mathlib.Core.Path.{◌≡◌, sym, ap}
use mathlib.Core.Bool.{true, false}
use mathlib.Core.List.{List}
use Prim.Native.Nat.{ℕ, ◌<◌}
use Rattle.geometry.specs.Plane.{Point}
use Rattle.geometry.specs.Segment.{meets}
use Rattle.machine.specs.Search.{flat}
use Rattle.polygon.specs.Ring.{next}
use Rattle.machine.specs.Board.{pt_at}
use Rattle.geometry.proofs.Crossing.{a_b, a_b', a'_b, laid_apart}
use Rattle.polygon.specs.Change.{Crossed}

module _ (n : ℕ) (pt : ℕ → Point) (r : List ℕ) (a b : ℕ) (la : a < n) (lb : b < n) (nf : flat n pt r a b ≡ false)
    (m : meets (pt_at pt r a) (pt_at pt r (next n a)) (pt_at pt r b) (pt_at pt r (next n b)) ≡ true) where
  pub crossed : Crossed n a b
  crossed = record {
    la = la;
    lb = lb;
    ab = λ e. a_b (pt_at pt r a) (pt_at pt r (next n a)) (pt_at pt r b) (pt_at pt r (next n b)) nf m (ap (pt_at pt r) e);
    not_on = λ e. a'_b (pt_at pt r a) (pt_at pt r (next n a)) (pt_at pt r b) (pt_at pt r (next n b)) nf m (ap (pt_at pt r) e);
    not_back = λ e. a_b' (pt_at pt r a) (pt_at pt r (next n a)) (pt_at pt r b) (pt_at pt r (next n b)) nf m (ap (pt_at pt r) (sym e));
  }

  pub uncrossed : meets (pt_at pt r a) (pt_at pt r b) (pt_at pt r (next n a)) (pt_at pt r (next n b)) ≡ false
  uncrossed = laid_apart (pt_at pt r a) (pt_at pt r (next n a)) (pt_at pt r b) (pt_at pt r (next n b)) nf m
