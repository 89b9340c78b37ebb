-- `differ` meets its contract: a closure asks for two places.
use Rattle.std.proofs.Common.{rules, length, get_or, ◌-◌, ◌+◌}
use Rattle.std.specs.Prelude.{ltb}
use borrow.Author.Tests.{tests}
use Rattle.checks.proofs.Alls.{all_is}
use Rattle.audit.proofs.Ordering.{differ_is}
use Rattle.audit.proofs.ages.differ.Goals as goal

pub returns : goal.returns
returns c =
    let l = c.args.sorted.now in
    λ d s. differ_is s (all_is (length l - 1) (λ i. ltb (get_or l i 0) (get_or l (i + 1) 0)) c.all.ensures.ran (search rules) (λ x q k. search (rules, tests)) (λ x q k. search (rules, tests)))
