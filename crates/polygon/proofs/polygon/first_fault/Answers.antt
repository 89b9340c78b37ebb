use Rattle.std.proofs.Common.{length}
use Rattle.polygon.proofs.FirstFault.{passed_none}
use Rattle.polygon.proofs.polygon.first_fault.Goals as goal

pub loop-i-init : goal.loop-i-init
loop-i-init c = passed_none (length c.args.ring.now) c.args.ring.now
