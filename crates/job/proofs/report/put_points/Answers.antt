use Rattle.std.proofs.Common.{arith}
use Rattle.job.specs.Loops.{spots}
use Rattle.job.specs.Text.{point_lines}
use Rattle.job.proofs.Writing.{wrote_none, wrote_then}
use Rattle.job.proofs.Lines.{lines_next, length_lines}
use Rattle.job.proofs.report.put_points.Goals as goal

pub loop-i-init : goal.loop-i-init
unfolding point_lines
loop-i-init c = wrote_none c.args.w.now

pub put_point-requires : goal.put_point-requires
put_point-requires c = omega (arith, c.loop-i.invariant.text.next, length_lines (spots c.args.told) c.args.told.ring.now c.loop-i.i)

pub loop-i-preserved : goal.loop-i-preserved
loop-i-preserved c =
    rw (lines_next (spots c.args.told) c.args.told.ring.now c.loop-i.i) (wrote_then c.loop-i.invariant (rw c.at.ensures at c.put_point.ensures))
