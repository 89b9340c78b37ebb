use Rattle.std.proofs.Common.{arith}
use Rattle.drawing.proofs.put_verb.Goals as goal

pub returns-then-overlap-clause-text : goal.returns-then-overlap-clause-text
returns-then-overlap-clause-text c = rw c.if-overlap.true c.text.ensures

pub returns-then-overlap-clause-short : goal.returns-then-overlap-clause-short
returns-then-overlap-clause-short c = rw c.if-overlap.true (omega arith)

pub returns-else-overlap-clause-text : goal.returns-else-overlap-clause-text
returns-else-overlap-clause-text c = rw c.if-overlap.false c.text-else-overlap.ensures

pub returns-else-overlap-clause-short : goal.returns-else-overlap-clause-short
returns-else-overlap-clause-short c = rw c.if-overlap.false (omega arith)
