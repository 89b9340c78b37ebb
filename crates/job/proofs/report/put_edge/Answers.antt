-- The parts of the line are written one after the other.
use Rattle.job.specs.Text.{edge_line}
use Rattle.job.proofs.Writing.{wrote_then}
use Rattle.job.proofs.report.put_edge.Goals as goal

pub returns : goal.returns
unfolding edge_line
returns c = wrote_then c.put_edge_name.ensures.text (wrote_then c.field.ensures c.text.ensures)
