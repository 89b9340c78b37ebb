-- Each half has fewer positions.
use Rattle.box_tree.proofs.tree.+refresh.Given as goal

abbrev pub decreases-refresh : goal.decreases-refresh
decreases-refresh l = l.k
