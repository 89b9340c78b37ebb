-- The parts of the line are written one after the other.
use Rattle.job.specs.Text.{summary}
use Rattle.job.proofs.Writing.{wrote_then}
use Rattle.job.proofs.report.put_summary.Goals as goal

pub returns : goal.returns
unfolding summary
returns c = wrote_then c.field.ensures (wrote_then c.field-2.ensures (wrote_then c.field-3.ensures (wrote_then c.field-4.ensures c.text.ensures)))
