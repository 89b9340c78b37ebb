-- `slots_fit` meets its contract: a closure asks for one place.
use Rattle.std.proofs.Common.{rules, get_or, ◌-◌, ◌*◌}
use Rattle.std.specs.Prelude.{ltb}
use borrow.Author.Tests.{tests}
use Rattle.checks.proofs.Alls.{all_is}
use Rattle.save.proofs.Records.slots_fit.Goals as goal

pub returns : goal.returns
returns c =
    let d = c.args.self.dense.now in
    let n = c.args.n in
    all_is c.args.self.live (λ j. ltb (get_or d j 0) (n * (n - 1))) c.all.ensures.ran (search rules) (λ x q k. search (rules, tests)) (λ x q k. search (rules, tests))
