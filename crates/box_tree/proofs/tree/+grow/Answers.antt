-- `grow` meets its contract: both halves come back grown, and their union is written before them.
use Rattle.std.proofs.Common.{arith}
use Rattle.box_tree.proofs.Parts.{node_made}
use Rattle.box_tree.proofs.tree.+grow.Goals as goal

pub returns : goal.returns
returns t c = node_made c.requires (omega arith) _ _ _ _ c.grow.ensures c.grow-2.ensures c.write_union.ensures
