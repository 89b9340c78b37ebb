-- The other edge's count is as it was, at a place of its own.
use Rattle.intersection_set.proofs.Tangles.{lower_next}
use Rattle.intersection_set.proofs.intersection_set.lower_both.Goals as goal

pub lower-requires-2 : goal.lower-requires-2
lower-requires-2 c = search (lower_next, c.requires, c.lower.ensures)
