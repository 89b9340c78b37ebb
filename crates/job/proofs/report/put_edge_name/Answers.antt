-- The parts are written one after the other.
use Rattle.job.specs.Text.{edge_name}
use Rattle.job.proofs.Writing.{wrote_then}
use Rattle.job.proofs.report.put_edge_name.Goals as goal

pub returns-clause-text : goal.returns-clause-text
unfolding edge_name
returns-clause-text c = wrote_then c.field.ensures c.field-2.ensures
