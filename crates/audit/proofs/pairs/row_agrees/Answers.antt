-- `row_agrees` meets its contract: a closure asks for one position.
use Rattle.std.proofs.Common.{rules}
use Rattle.geometry.specs.Spots.{spots}
use Rattle.checks.proofs.Alls.{all_is}
use Rattle.audit.specs.Marks.{agree}
use Rattle.audit.proofs.pairs.row_agrees.Goals as goal

pub returns : goal.returns
returns c =
    all_is c.args.j.0 (λ i. agree c.args.points.n (spots c.args.points) c.args.ring.now c.args.table.now i c.args.j.0) c.all.ensures.ran (search rules) (λ x q k. search rules) (λ x q k. search rules)
