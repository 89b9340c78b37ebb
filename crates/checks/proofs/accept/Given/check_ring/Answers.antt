-- `check_ring` meets its contract: past the first six checks it comes to the same exits as the definition.
use mathlib.Core.Path.{sym, subst⁻¹}
use Prim.Native.Nat.{ℕ}
use lib.ListN.{take}
use Rattle.geometry.specs.Lent.{points}
use Rattle.polygon.specs.Ring.{IsRing}
use Rattle.checks.proofs.Checking.{six_ring}
use Rattle.checks.proofs.accept.Given.check_ring.Goals as goal

pub all_colinear-requires : goal.all_colinear-requires
all_colinear-requires c =
    let s = c.args.self in
    subst⁻¹ (λ (m : ℕ). IsRing m (take s.n c.args.ring.now)) c.in_ok-points.ensures.passed.0
    (six_ring s.n (points s.x.now s.y.now) s.short s.many (take s.n c.args.ring.now) (sym c.in_ok-points.ensures.number))
