-- The parts of the text are written one after the other.
use Rattle.std.proofs.Common.{arith}
use Rattle.refusal.specs.Number.{number_of}
use Rattle.job.specs.Loops.{spots}
use Rattle.job.specs.Text.{report_text, loop_lines, refused_line}
use Rattle.job.proofs.Writing.{wrote_then}
use Rattle.job.proofs.Lines.{length_summary, length_loop, length_refused}
use Rattle.job.proofs.report.put_text.Goals as goal

pub put_points-requires : goal.put_points-requires
put_points-requires c = let h = rw c.in-Delivered.is at c.requires in omega (arith, h, c.put_summary.ensures.long, c.put_summary.ensures.text.next, length_summary)

pub returns-in-Delivered-clause-text : goal.returns-in-Delivered-clause-text
unfolding report_text loop_lines
returns-in-Delivered-clause-text c = let p = wrote_then c.put_summary.ensures c.put_points.ensures in rw (c.in-Delivered.is, ← c.feed.ensures) p

pub returns-in-Delivered-clause-short : goal.returns-in-Delivered-clause-short
unfolding report_text
returns-in-Delivered-clause-short c =
    let t = c.in-Delivered.told in
    rw c.in-Delivered.is (length_loop (spots t) t.ring.now c.in-Delivered.moves c.in-Delivered.cross)

pub returns-in-Stopped-clause-text : goal.returns-in-Stopped-clause-text
unfolding report_text
returns-in-Stopped-clause-text c = rw c.in-Stopped.is c.put_stopped.ensures.lines

pub returns-in-Stopped-clause-short : goal.returns-in-Stopped-clause-short
unfolding report_text
returns-in-Stopped-clause-short c = rw c.in-Stopped.is (omega (arith, c.put_stopped.ensures.short))

pub returns-in-Refused-clause-text : goal.returns-in-Refused-clause-text
unfolding report_text refused_line
returns-in-Refused-clause-text c = rw (c.in-Refused.is, ← c.number.ensures) c.put_line.ensures

pub returns-in-Refused-clause-short : goal.returns-in-Refused-clause-short
unfolding report_text
returns-in-Refused-clause-short c = rw c.in-Refused.is (omega (arith, length_refused (number_of c.in-Refused.refusal)))

pub returns-in-Numbered-clause-text : goal.returns-in-Numbered-clause-text
unfolding report_text refused_line
returns-in-Numbered-clause-text c = rw c.in-Numbered.is c.put_line-in-Numbered.ensures

pub returns-in-Numbered-clause-short : goal.returns-in-Numbered-clause-short
unfolding report_text
returns-in-Numbered-clause-short c = rw c.in-Numbered.is (omega (arith, length_refused c.in-Numbered.number))
