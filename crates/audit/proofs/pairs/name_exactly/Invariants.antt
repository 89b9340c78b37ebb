-- The records are those that are asked for.
use Rattle.audit.proofs.pairs.name_exactly.Given as goal

abbrev pub ghost-mark_all : goal.ghost-mark_all
ghost-mark_all g a = g.d
