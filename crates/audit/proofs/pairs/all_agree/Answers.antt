-- `all_agree` meets its contract: a closure asks for one row.
use Rattle.std.proofs.Common.{rules}
use Rattle.algebra.specs.Ranges.{all_below}
use Rattle.geometry.specs.Spots.{spots}
use Rattle.checks.proofs.Alls.{all_is}
use Rattle.audit.specs.Marks.{agree}
use Rattle.audit.proofs.pairs.all_agree.Goals as goal

pub returns : goal.returns
returns c =
    all_is c.args.points.n (λ j. all_below j (λ i. agree c.args.points.n (spots c.args.points) c.args.ring.now c.args.table.now i j)) c.all.ensures.ran (search rules) (λ x q k. search rules) (λ x q k. search rules)
