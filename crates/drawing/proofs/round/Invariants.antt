-- What each place is to hold.
use Rattle.geometry.specs.Lent.{coord}
use Rattle.job.specs.Steps.{steps}
use Rattle.drawing.proofs.round.Given as goal

abbrev pub ghost-fill : goal.ghost-fill
ghost-fill a i = steps (coord a.read.0.now i)
