-- The part that is written is 0, 1, 2, .., and what is behind it stays.
use mathlib.Core.Path.{ap, ◌∙◌}
use mathlib.Core.List.{List, ◌++◌}
use Prim.Native.Nat.{ℕ}
use native.Mathlib.Omega.{arith}
use lib.ListN.{drop}
use lib.Seq.{length-take-le}
use Rattle.intersection_set.proofs.Filling.{numbered_off}
use Rattle.intersection_set.proofs.refill.number.Goals as goal

pub returns : goal.returns
returns c =
    let n = c.args.count in
    let l = c.args.list.now in
    let long = length-take-le n l c.requires.0 in
    ap (λ (part : List ℕ). part ++ drop n l) (numbered_off c.loop-i.part n (c.loop-i.auto.part ∙ long) (λ k h. c.loop-i.invariant k (omega (arith, long, c.loop-i-test.false))))
