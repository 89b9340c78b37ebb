use Rattle.std.proofs.Common.{arith}
use Rattle.job.proofs.Writing.{wrote_none, wrote_then}
use Rattle.job.proofs.Written.{table, length_table}
use Rattle.image.specs.Bytes.{lines_bytes}
use Rattle.image.proofs.Lines.{length_lines, lines_next}
use Rattle.image.proofs.writing.put_lines.Goals as goal

pub loop-i-init : goal.loop-i-init
unfolding lines_bytes
loop-i-init g c = wrote_none c.args.w.now

pub put_line-requires : goal.put_line-requires
put_line-requires g c = omega (arith, c.loop-i.invariant.text.next, length_lines (table g.entry c.loop-i.i), length_table g.entry c.loop-i.i)

pub loop-i-preserved : goal.loop-i-preserved
loop-i-preserved g c =
    let i = c.loop-i.i in
    let e = c.requires.1.1.1 i c.line-ends.result c.loop-i-test.true c.line-ends.ensures in
    rw (lines_next g.entry i) (wrote_then c.loop-i.invariant (rw e at c.put_line.ensures))
