use Rattle.std.proofs.Common.{rules}
use borrow.Author.Tests.{tests}
use Rattle.geometry.specs.Plane.{near_point}
use Rattle.geometry.specs.Lent.{points}
use Rattle.checks.proofs.Alls.{all_is}
use Rattle.checks.proofs.start.in_range.Goals as goal

pub returns : goal.returns
returns c =
    let pt = points c.args.x.now c.args.y.now in
    all_is c.args.n (λ i. near_point (pt i)) c.all.ensures.ran (search rules) (λ x q k. search (rules, tests)) (λ x q k. search (rules, tests))
