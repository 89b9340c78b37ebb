-- The words so far are written.
use Rattle.std.proofs.Common.{take}
use Rattle.job.specs.Words.{bytes_of}
use Rattle.job.specs.Writing.{Wrote}
use Rattle.job.proofs.writer.Writer.words.Given as goal

abbrev pub invariant-loop-w : goal.invariant-loop-w
invariant-loop-w l = Wrote l.initial.self l.self (bytes_of (take l.w-index l.ws))
