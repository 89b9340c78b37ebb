-- `two` meets its contract: what its halves find is what it finds.
use Rattle.std.proofs.Common.{arith}
use Rattle.box_tree.proofs.Querying.{asked_size, asked_first, asked_second, finds_halves}
use Rattle.box_tree.proofs.query.two.Goals as goal

pub slice_bounds-one-end : goal.slice_bounds-one-end
slice_bounds-one-end c = omega (arith, asked_size c.requires)

pub one-c-requires : goal.one-c-requires
one-c-requires c = asked_first c.requires (omega arith)

pub one-requires : goal.one-requires
one-requires c = asked_second c.requires (omega arith) c.args.b c.one-c.ensures

pub returns : goal.returns
returns c = finds_halves c.requires (omega arith) c.args.b c.one-c.ensures c.one.ensures
