-- The parts of the line are written one after the other.
use Rattle.std.proofs.Common.{arith, length-append}
use Rattle.job.proofs.Writing.{wrote_then}
use Rattle.drawing.specs.Printed.{contact_line}
use Rattle.drawing.proofs.put_contact.Goals as goal

pub returns-clause-text : goal.returns-clause-text
unfolding contact_line
returns-clause-text c =
    rw (← c.overlap.ensures)
    (wrote_then c.put_edge_name.ensures.text (wrote_then c.put_verb.ensures.text (wrote_then c.put_edge_name-2.ensures.text c.text.ensures)))

pub returns-clause-short : goal.returns-clause-short
unfolding contact_line
returns-clause-short c =
    rw (← c.overlap.ensures)
    (simp length-append (omega (arith, c.put_edge_name.ensures.short, c.put_verb.ensures.short, c.put_edge_name-2.ensures.short)))
