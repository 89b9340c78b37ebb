-- Each half has fewer positions.
use Rattle.box_tree.proofs.tree.+grow.Given as goal

abbrev pub decreases-grow : goal.decreases-grow
decreases-grow l = l.k
