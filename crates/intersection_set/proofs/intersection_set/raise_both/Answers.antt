-- The other edge's count is as it was, at a place of its own.
use Rattle.intersection_set.proofs.Tangles.{raise_next}
use Rattle.intersection_set.proofs.intersection_set.raise_both.Goals as goal

pub raise-requires-2 : goal.raise-requires-2
raise-requires-2 c = search (raise_next, c.requires, c.raise.ensures)
