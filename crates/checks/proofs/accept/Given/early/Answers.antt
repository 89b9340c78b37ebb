-- `early` meets its contract: past the three checks the points are within the limits.
use native.Mathlib.Omega.{arith}
use Prim.Native.Nat.{◌≤◌}
use mathlib.Core.Path.{sym, ◌∙◌}
use Rattle.checks.proofs.Checking.{lent_of}
use Rattle.checks.proofs.accept.Given.early.Goals as goal

pub invariant_of-result : goal.invariant_of-result
invariant_of-result c =
    let few : c.args.self.n ≤ 256 = omega (arith, c.if-n-gt256.false) in
    let l = c.args.self.long few c.if-short.false in
    record { lent = lent_of few l.0 l.1 (sym c.in_range.ensures ∙ c.if-not-in_range.false) }
