-- The lines of the first i positions are written.
use Rattle.job.specs.Loops.{spots}
use Rattle.job.specs.Text.{point_lines}
use Rattle.job.specs.Writing.{Wrote}
use Rattle.job.proofs.report.put_points.Given as goal

abbrev pub invariant-loop-i : goal.invariant-loop-i
invariant-loop-i l = Wrote l.initial.w l.w (point_lines (spots l.told) l.told.ring.now l.i)
