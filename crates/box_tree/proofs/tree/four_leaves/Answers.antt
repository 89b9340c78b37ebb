-- `four_leaves` meets its contract: twice two leaves, and their union before them.
use Rattle.std.proofs.Common.{arith}
use Rattle.box_tree.proofs.Leaves.{pair_made}
use Rattle.box_tree.proofs.Parts.{node_made}
use Rattle.box_tree.proofs.tree.four_leaves.Goals as goal

pub returns : goal.returns
returns c =
    let middle = c.point_at-r.ensures in
    node_made c.requires (omega arith) _ _ _ _
    (pair_made _ _ _ _ _ _ _ _ _ _ (omega arith) (omega arith) c.point_at-p.ensures c.point_at-q.ensures middle (grind arith) c.write_pair.ensures)
    (pair_made _ _ _ _ _ _ _ _ _ _ (omega arith) (omega arith) middle c.point_at-s.ensures c.point_at-t.ensures c.next_place.ensures.0 c.write_pair-2.ensures)
    c.write_union.ensures
