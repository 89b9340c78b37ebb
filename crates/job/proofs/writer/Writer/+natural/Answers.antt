-- One digit, or the digits of the tenth part and then the last.
use Rattle.std.proofs.Common.{arith}
use Rattle.job.proofs.Decimals.{decimal_small, decimal_more}
use Rattle.job.proofs.Writing.{wrote_then}
use Rattle.job.proofs.writer.Writer.+natural.Goals as goal

pub returns-then-v-lt10 : goal.returns-then-v-lt10
returns-then-v-lt10 t c = rw (decimal_small c.args.v c.if-v-lt10.true) c.byte.ensures

pub returns-else-v-lt10 : goal.returns-else-v-lt10
returns-else-v-lt10 t c =
    rw (decimal_more c.args.v c.if-v-lt10.false (omega (arith, c.ranges.v.fits))) (wrote_then c.natural.ensures c.byte-else-v-lt10.ensures)
