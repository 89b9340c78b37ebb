-- The records so far are written.
use Rattle.job.specs.Writing.{Wrote}
use Rattle.job.proofs.Written.{table}
use Rattle.image.specs.Bytes.{lines_bytes}
use Rattle.image.proofs.writing.put_lines.Given as goal

abbrev pub invariant-loop-i : goal.invariant-loop-i
invariant-loop-i g l = Wrote l.initial.w l.w (lines_bytes (table g.entry l.i))
