use Rattle.std.proofs.Common.{rules, not}
use borrow.Author.Tests.{tests}
use Rattle.geometry.specs.Plane.{eq_point}
use Rattle.geometry.specs.Spots.{spots}
use Rattle.geometry.proofs.Derived.{same_is}
use Rattle.checks.proofs.Alls.{all_is}
use Rattle.checks.proofs.start.is_new.Goals as goal

pub returns : goal.returns
returns c =
    let pt = spots c.args.points in
    let i = c.args.id.0 in
    all_is i (λ j. not (eq_point (pt j) (pt i))) c.all.ensures.ran (search rules) (λ x q k. search (rules, tests, same_is, c.at.ensures)) (λ x q k. search (rules, tests, same_is, c.at.ensures))
