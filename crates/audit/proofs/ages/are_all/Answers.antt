-- `are_all` meets its contract: a closure asks for one place.
use Rattle.std.proofs.Common.{rules, length, get_or}
use Rattle.std.specs.Prelude.{eqb}
use borrow.Author.Tests.{tests}
use Rattle.checks.proofs.Alls.{all_is}
use Rattle.audit.proofs.Ordering.{all_is as ages_are}
use Rattle.audit.proofs.ages.are_all.Goals as goal

pub returns : goal.returns
returns c =
    let l = c.args.sorted.now in
    λ d s. ages_are s (all_is (length l) (λ i. eqb (get_or l i 0) i) c.all.ensures.ran (search rules) (λ x q k. search (rules, tests)) (λ x q k. search (rules, tests)))
