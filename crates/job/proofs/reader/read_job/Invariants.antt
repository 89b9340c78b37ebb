-- What each place of the buffers is to hold.
use Rattle.std.proofs.Common.{◌+◌, ◌*◌}
use Rattle.job.specs.Words.{word, signed}
use Rattle.job.specs.Steps.{steps}
use Rattle.job.proofs.reader.read_job.Given as goal

abbrev pub ghost-fill : goal.ghost-fill
ghost-fill a i = steps (signed (word a.read.0.now (a.read.1.now + 8 * i)))

abbrev pub ghost-fill-2 : goal.ghost-fill-2
ghost-fill-2 a i = steps (signed (word a.read.0.now (a.read.1.now + 4 + 8 * i)))

abbrev pub ghost-fill-3 : goal.ghost-fill-3
ghost-fill-3 a i = word a.read.0.now (a.read.1.now + 4 * i)
