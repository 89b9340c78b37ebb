-- `check_contact` meets its contract: a turn goes one position on.
use Rattle.std.proofs.Common.{◌∙◌, arith}
use Rattle.geometry.specs.Spots.{spots}
use Rattle.validate.proofs.Behind.{contact_next}
use Rattle.validate.proofs.contact.check_contact.Goals as goal

pub loop-i-preserved : goal.loop-i-preserved
loop-i-preserved c =
    c.loop-i.invariant ∙ contact_next c.args.points.n (spots c.args.points) c.args.ring.now c.loop-i.i (omega (arith, c.loop-i-test.true, c.size-i-end.ensures)) c.in_default.ensures
