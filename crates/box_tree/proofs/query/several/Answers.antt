-- `several` meets its contract: what its halves find is what it finds.
use Rattle.std.proofs.Common.{arith}
use Rattle.box_tree.proofs.Querying.{asked_size, asked_first, asked_second, finds_halves}
use Rattle.box_tree.proofs.query.several.Goals as goal

pub slice_bounds-few-end : goal.slice_bounds-few-end
slice_bounds-few-end c = omega (arith, asked_size c.requires.0)

pub few-c-requires : goal.few-c-requires
few-c-requires c = (asked_first c.requires.0 (omega arith), omega arith)

pub few-requires-2 : goal.few-requires-2
few-requires-2 c = (asked_second c.requires.0 (omega arith) c.args.b c.few-c.ensures, omega arith)

pub returns : goal.returns
returns c = finds_halves c.requires.0 (omega arith) c.args.b c.few-c.ensures c.few-2.ensures
