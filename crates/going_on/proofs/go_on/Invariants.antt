-- The picks by number.
use Rattle.going_on.specs.Printed.{pick_in}
use Rattle.going_on.proofs.go_on.Given as goal

abbrev pub ghost-fill : goal.ghost-fill
ghost-fill a = pick_in a.read.0.now
