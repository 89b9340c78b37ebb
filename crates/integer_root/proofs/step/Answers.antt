-- `step` meets its contract: v / x is at most x + 2, so the sum fits.
use native.Mathlib.Omega.{arith}
use Rattle.integer_root.proofs.Newton.{step_above, step_root, step_room}
use Rattle.integer_root.proofs.step.Goals as goal

pub nonzero_div-result : goal.nonzero_div-result
nonzero_div-result c = omega (arith, c.requires.0)

pub overflow_add-result : goal.overflow_add-result
overflow_add-result c = omega (arith, step_room c.args.v c.args.x c.requires.0 c.requires.2, c.requires.1)

pub returns : goal.returns
returns c = (step_above c.args.v c.args.x c.requires.0, step_root c.args.v c.args.x c.requires.0)
