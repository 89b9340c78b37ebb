-- The parts of the line are written one after the other.
use Rattle.job.proofs.Writing.{wrote_then}
use Rattle.job.proofs.report.put_line.Goals as goal

pub returns : goal.returns
returns c = wrote_then c.text.ensures (wrote_then c.natural.ensures c.text-2.ensures)
