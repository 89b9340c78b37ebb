use Rattle.std.proofs.Common.{take, sym, ap, length, arith, rules}
use Rattle.std.proofs.Math.Seq.{length-take-le}
use Rattle.job.proofs.Writing.{wrote_then}
use Rattle.job.proofs.Written.{table, length_table}
use Rattle.image.specs.Bytes.{image_bytes, frame_bytes}
use Rattle.image.proofs.Frames.{length_frame}
use Rattle.image.proofs.Lines.{length_lines}
use Rattle.image.proofs.writing.write_image.Goals as goal

pub put_lines-requires : goal.put_lines-requires
put_lines-requires g c κs s =
    let a = c.args in
    let ring = length-take-le a.n a.ring.now in
    let before = length_frame a.n a.x.now a.y.now (take a.n a.ring.now) a.count in
    let room = ap length c.new-w.ensures.empty.0 in
    (s, (omega (arith, c.put_frame.ensures.text.next, before, ring, c.new-w.ensures.empty.1, room), c.requires.1.1.1))

pub returns-clause-length : goal.returns-clause-length
returns-clause-length g c =
    let a = c.args in
    let ring = length-take-le a.n a.ring.now in
    let before = length_frame a.n a.x.now a.y.now (take a.n a.ring.now) a.count in
    let lines = length_lines (table g.entry a.count) in
    omega (
      arith,
      c.at.ensures,
      c.put_lines.ensures.text.next,
      c.put_frame.ensures.text.next,
      before,
      ring,
      lines,
      length_table g.entry a.count,
      c.new-w.ensures.empty.1,
    )

pub returns-clause-bytes : goal.returns-clause-bytes
unfolding image_bytes
returns-clause-bytes g c =
    let a = c.args in
    let count = sym (length_table g.entry a.count) in
    let frame = ap (frame_bytes a.n a.x.now a.y.now (take a.n a.ring.now)) count in
    let whole = rw frame at (wrote_then c.put_frame.ensures c.put_lines.ensures) in
    search rules
