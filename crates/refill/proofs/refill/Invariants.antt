-- The lines are those of the image.
use Rattle.refill.proofs.refill.Given as goal

abbrev pub ghost-stack_slots : goal.ghost-stack_slots
ghost-stack_slots g a = g.image.lines

abbrev pub ghost-push_waiting : goal.ghost-push_waiting
ghost-push_waiting g a = g.image.lines
