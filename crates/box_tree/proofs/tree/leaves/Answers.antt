-- `leaves` meets its contract: both halves come back made, and their union is written before them.
use Rattle.std.proofs.Common.{arith}
use Rattle.box_tree.proofs.Parts.{node_made}
use Rattle.box_tree.proofs.tree.leaves.Goals as goal

pub returns : goal.returns
returns c = node_made c.requires.0 (omega arith) _ _ _ _ c.few-2.ensures c.few-3.ensures c.write_union.ensures
