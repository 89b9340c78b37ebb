use Rattle.std.proofs.Common.{◌∙◌}
use Rattle.job.specs.Steps.{steps}
use Rattle.drawing.proofs.Rounded.{over_map}
use Rattle.drawing.proofs.round.Goals as goal

pub returns : goal.returns
returns c = c.fill.ensures ∙ over_map steps c.args.coordinates.now c.args.out.now
