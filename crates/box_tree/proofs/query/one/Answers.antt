-- `one` meets its contract: the box that it reads is the position's.
use Rattle.std.proofs.Common.{arith}
use Rattle.box_tree.proofs.Querying.{asked_size, finds_one}
use Rattle.box_tree.proofs.query.one.Goals as goal

pub read-requires : goal.read-requires
read-requires c = omega (arith, asked_size c.requires)

pub returns : goal.returns
returns c = finds_one c.args.b c.args.i (rw (c.shares.ensures, c.read.ensures) at c.keep.ensures)
