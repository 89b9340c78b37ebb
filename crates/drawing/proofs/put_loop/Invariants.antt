-- The ring names the points in their own order.
use Rattle.drawing.proofs.put_loop.Given as goal

abbrev pub ghost-fill : goal.ghost-fill
ghost-fill a i = i
