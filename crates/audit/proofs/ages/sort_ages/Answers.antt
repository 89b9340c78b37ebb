-- `sort_ages` meets its contract.
use Rattle.std.proofs.Common.{◌≡◌, sym, ◌∙◌, ap, subst, ◌++◌, length, take, drop, arith}
use Rattle.std.proofs.Math.Seq.{take-append_seam}
use Rattle.std.proofs.lemmas.List.Sorted.{IsNonDecreasingBy-from_sort}
use Rattle.audit.specs.Sorted.{Sorted}
use Rattle.audit.proofs.Ordering.{sorted_is}
use Rattle.audit.proofs.ages.sort_ages.Goals as goal

pub returns-clause-sorted : goal.returns-clause-sorted
returns-clause-sorted g c =
    let (size, ages) = c.loop-k.invariant in
    let count = c.requires.1.0.1 in
    let s = sorted_is size (λ k h. ages k (omega (arith, h, size, c.loop-k-test.false, c.loop-k.auto.part))) c.sort_unstable.ensures.permutation (IsNonDecreasingBy-from_sort (λ x. x) c.sort_unstable.new.self c.sort_unstable.ensures.sorted) in
    let e : c.args.count ≡ length c.sort_unstable.new.self = omega (arith, s.size, count) in
    subst (Sorted g.d) (sym (ap (λ k. take k (c.sort_unstable.new.self ++ drop c.args.count c.args.table.now)) e ∙ take-append_seam c.sort_unstable.new.self (drop c.args.count c.args.table.now))) s
