use mathlib.Core.Path.{◌≡◌}
use Prim.Native.Nat.{◌+◌, ◌*◌, ◌<◌}
use native.Mathlib.Omega.{arith}
use Rattle.integer_root.proofs.Roots.{root_of}
use Rattle.integer_root.proofs.integer_root.Goals as goal

pub loop-x-init : goal.loop-x-init
loop-x-init c = let a = c.above-x.ensures in (a.2, omega (arith, a.1))

pub step-y-requires : goal.step-y-requires
step-y-requires c = let i = c.loop-x.invariant in (omega (arith, c.loop-x-test.true), i.0, i.1)

pub returns-then-x-y : goal.returns-then-x-y
returns-then-x-y c =
    let l = c.loop-x in
    let is = root_of (c.step-y.ensures.1 c.if-x-y.true) l.invariant.1 in
    omega (arith, is)

pub loop-x-smaller : goal.loop-x-smaller
loop-x-smaller c = omega (arith, c.if-x-y.false)

pub loop-x-preserved : goal.loop-x-preserved
loop-x-preserved c = (omega (arith, c.if-x-y.false, c.loop-x.invariant.0), c.step-y.ensures.0)

pub returns : goal.returns
returns c =
    let l = c.loop-x in
    let none : l.x ≡ 0 = omega (arith, c.loop-x-test.false) in
    let small : c.args.v < (0 + 1) * (0 + 1) = rw none at l.invariant.1 in
    root_of (omega arith) (omega (arith, small))
