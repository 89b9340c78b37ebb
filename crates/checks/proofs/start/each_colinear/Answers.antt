-- `each_colinear` meets its contract: it asks of each position what the definition asks.
use Rattle.std.proofs.Common.{rules}
use borrow.Author.Tests.{tests}
use Rattle.geometry.specs.Spots.{spots}
use Rattle.machine.specs.Board.{is_straight_line}
use Rattle.checks.proofs.Alls.{all_is}
use Rattle.checks.proofs.start.each_colinear.Goals as goal

pub returns : goal.returns
returns g c =
    let p = c.args.points in
    λ ring is.
    all_is p.n (is_straight_line p.n (spots p) ring) c.all.ensures.ran (search rules) (λ x q k. search (rules, tests, is)) (λ x q k. search (rules, tests, is))
