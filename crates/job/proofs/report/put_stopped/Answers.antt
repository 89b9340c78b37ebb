-- The parts of the text are written one after the other.
use Rattle.std.proofs.Common.{arith}
use Rattle.job.specs.Text.{left_line, total_line, stopped_lines}
use Rattle.job.specs.Tallies.{tally}
use Rattle.job.specs.Writing.{Wrote}
use Rattle.job.proofs.Writing.{wrote_then}
use Rattle.job.proofs.Lines.{length_left, length_stopped}
use Rattle.job.proofs.report.put_stopped.Goals as goal

pub put_edges-total-requires : goal.put_edges-total-requires
unfolding left_line
put_edges-total-requires c = let p : Wrote c.args.w.now c.put_line.new.w (left_line c.args.left) = c.put_line.ensures in omega (arith, p.text.next, length_left c.args.left)

pub put_line-requires-2 : goal.put_line-requires-2
unfolding left_line
put_line-requires-2 c =
    let p : Wrote c.args.w.now c.put_line.new.w (left_line c.args.left) = c.put_line.ensures in
    let q = c.put_edges-total.ensures in
    omega (arith, p.long, p.text.next, length_left c.args.left, q.lines.long, q.lines.text.next, q.short)

pub returns-clause-lines : goal.returns-clause-lines
unfolding stopped_lines left_line total_line
returns-clause-lines c =
    let q = c.put_edges-total.ensures in
    rw (← q.total) (wrote_then c.put_line.ensures (wrote_then q.lines c.put_line-2.ensures))

pub returns-clause-short : goal.returns-clause-short
returns-clause-short c = length_stopped (tally c.args.told) c.args.told.ring.now c.args.left c.put_edges-total.ensures.short
