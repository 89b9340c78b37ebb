-- `two_leaves` meets its contract: the three points stand at the two positions and behind them.
use Rattle.std.proofs.Common.{refl, arith}
use Rattle.box_tree.proofs.Leaves.{pair_made}
use Rattle.box_tree.proofs.tree.two_leaves.Goals as goal

pub returns : goal.returns
returns c =
    pair_made _ _ _ _ _ _ _ _ _ _ refl (omega arith) c.point_at-p.ensures c.point_at-q.ensures c.point_at-r.ensures c.next_place.ensures.0
    c.write_pair.ensures
