-- `union` meets its contract: each lane of the one vector is the lesser, and of the other the greater.
use Rattle.box_tree.specs.Boxes.{unite}
use Rattle.box_tree.proofs.Vectors.{lesser, greater}
use Rattle.box_tree.proofs.bounds.Bounds.union.Goals as goal

pub returns : goal.returns
unfolding unite
returns c =
    let a = c.self.invariant in
    let b = c.other.invariant in
    rw (← c.self.view_is, ← c.other.view_is, ← a.whole, ← b.whole)
    (λ i. record { left = lesser _ _ a.left b.left i; low = lesser _ _ a.low b.low i; right = greater _ _ a.right b.right i; high = greater _ _ a.high b.high i })
