-- `side_of` meets its contract: the two tests are those of the sign.
use mir.Syntax.{w64}
use mir.ValLaws.{to_z-of_z}
use Rattle.geometry.proofs.Choosing.{sign_above, sign_below, sign_zero}
use Rattle.geometry.proofs.orientation.side_of.Goals as goal

pub returns-then-t-gt0 : goal.returns-then-t-gt0
returns-then-t-gt0 c = sign_above _ c.args.t (to_z-of_z w64 c.args.t c.ranges.t) c.if-t-gt0.true

pub returns-then-t-lt0 : goal.returns-then-t-lt0
returns-then-t-lt0 c = sign_below _ c.args.t (to_z-of_z w64 c.args.t c.ranges.t) c.if-t-lt0.true

pub returns : goal.returns
returns c = sign_zero _ c.args.t (to_z-of_z w64 c.args.t c.ranges.t) c.if-t-gt0.false c.if-t-lt0.false
