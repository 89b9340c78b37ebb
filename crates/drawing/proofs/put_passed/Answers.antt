-- The parts of the line are written one after the other.
use Rattle.job.proofs.Writing.{wrote_then}
use Rattle.drawing.specs.Printed.{passed_line}
use Rattle.drawing.proofs.put_passed.Goals as goal

pub returns : goal.returns
unfolding passed_line
returns c = wrote_then c.field.ensures (wrote_then c.field-2.ensures c.text.ensures)
