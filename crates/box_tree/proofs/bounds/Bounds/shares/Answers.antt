-- `shares` meets its contract: no lower side is above the other box's upper side.
use Rattle.std.proofs.Common.{◌∙◌}
use Rattle.std.specs.Prelude.{◌&&◌}
use Rattle.box_tree.specs.Boxes.{share}
use Rattle.box_tree.proofs.Vectors.{not_less, none_set}
use Rattle.box_tree.proofs.bounds.Bounds.shares.Goals as goal

pub returns : goal.returns
unfolding share
returns c =
    let a = c.self.invariant in
    let b = c.other.invariant in
    rw (← c.self.view_is, ← c.other.view_is, ← a.whole, ← b.whole)
    (none_set _ _ _ _
    ∙ (λ i. (not_less _ _ b.right a.left i && not_less _ _ a.right b.left i) && (not_less _ _ b.high a.low i && not_less _ _ a.high b.low i)))
