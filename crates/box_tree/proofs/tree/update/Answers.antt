-- `update` meets its contract: what holds a tree has the right size.
use Rattle.box_tree.proofs.Refreshing.{whole_part}
use Rattle.box_tree.proofs.tree.update.Goals as goal

pub refresh-requires : goal.refresh-requires
refresh-requires c = let (ring, held) = c.requires in (whole_part ring held, held)
