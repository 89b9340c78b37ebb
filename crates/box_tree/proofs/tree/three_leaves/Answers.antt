-- `three_leaves` meets its contract: one leaf and two, and their union before them.
use Rattle.std.proofs.Common.{arith}
use Rattle.box_tree.proofs.Parts.{node_made}
use Rattle.box_tree.proofs.tree.three_leaves.Goals as goal

pub returns : goal.returns
returns c = node_made c.requires (omega arith) _ _ _ _ c.one_leaf.ensures c.two_leaves.ensures c.write_union.ensures
