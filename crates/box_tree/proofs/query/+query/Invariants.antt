-- The halves have fewer positions.
use Rattle.box_tree.proofs.query.+query.Given as goal

abbrev pub decreases-query : goal.decreases-query
decreases-query l = l.k
