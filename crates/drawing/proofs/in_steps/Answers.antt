-- What the machine reads of the rounded coordinate is that coordinate.
use Rattle.std.proofs.Common.{rules, ◌≡◌, w32, to_z, of_z, ◌∙◌}
use mir.Val.{SFits}
use Rattle.drawing.proofs.Rounded.{steps_by}
use Rattle.drawing.proofs.in_steps.Goals as goal

pub returns : goal.returns
returns c =
    let fits : SFits w32 c.args.v = c.ranges.v in
    let read : to_z w32 (of_z w32 c.step_of.result) ≡ c.step_of.result = search rules in
    read ∙ steps_by c.cast_unsigned.ensures fits c.step_of.ensures
