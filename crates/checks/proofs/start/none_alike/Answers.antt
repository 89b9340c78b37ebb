use Rattle.std.proofs.Common.{rules}
use borrow.Author.Tests.{tests}
use Rattle.geometry.specs.Spots.{spots}
use Rattle.machine.specs.Answer.{new_point}
use Rattle.checks.proofs.Alls.{all_is}
use Rattle.checks.proofs.start.none_alike.Goals as goal

pub returns : goal.returns
returns c = all_is c.args.points.n (new_point (spots c.args.points)) c.all.ensures.ran (search rules) (λ x q k. search (rules, tests)) (λ x q k. search (rules, tests))
