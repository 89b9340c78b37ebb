-- `leaves` meets its contract: what its halves find is what it finds.
use Rattle.std.proofs.Common.{arith}
use Rattle.box_tree.proofs.Querying.{asked_size, asked_first, asked_second, finds_halves}
use Rattle.box_tree.proofs.query.leaves.Goals as goal

pub slice_bounds-several-end : goal.slice_bounds-several-end
slice_bounds-several-end c = omega (arith, asked_size c.requires.0)

pub several-c-requires : goal.several-c-requires
several-c-requires c = (asked_first c.requires.0 (omega arith), omega arith)

pub several-requires-2 : goal.several-requires-2
several-requires-2 c = (asked_second c.requires.0 (omega arith) c.args.b c.several-c.ensures, omega arith)

pub returns : goal.returns
returns c = finds_halves c.requires.0 (omega arith) c.args.b c.several-c.ensures c.several-2.ensures
