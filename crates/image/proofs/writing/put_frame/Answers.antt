use Rattle.std.proofs.Common.{length, take, ◌∙◌, sym, ap, arith}
use Rattle.std.proofs.Math.Seq.{length-take-le}
use Rattle.job.specs.Encoded.{pairs}
use Rattle.job.proofs.Writing.{wrote_then}
use Rattle.job.proofs.Bytes.{length_bytes}
use Rattle.job.proofs.Encoding.{length_pairs}
use Rattle.image.specs.Bytes.{frame_bytes}
use Rattle.image.proofs.Frames.{length_header, pairs_taken}
use Rattle.image.proofs.writing.put_frame.Goals as goal

pub put_pairs-requires : goal.put_pairs-requires
put_pairs-requires c =
    let n = c.args.n in
    let a = length-take-le n c.args.x.now in
    let b = length-take-le n c.args.y.now in
    let written = ap length c.header.ensures ∙ length_header n c.args.count in
    (omega (arith, a, b), omega (arith, a, c.words.ensures.text.next, length_bytes c.header.result, written))

pub put_ring-requires : goal.put_ring-requires
put_ring-requires c =
    let n = c.args.n in
    let xs = take n c.args.x.now in
    let ys = take n c.args.y.now in
    let a = length-take-le n c.args.x.now in
    let b = length-take-le n c.args.ring.now in
    let written = ap length c.header.ensures ∙ length_header n c.args.count in
    omega (
      arith,
      a,
      b,
      c.words.ensures.text.next,
      length_bytes c.header.result,
      written,
      c.put_pairs.ensures.text.next,
      length_bytes (pairs xs ys (length xs)),
      length_pairs xs ys (length xs),
    )

pub returns : goal.returns
unfolding frame_bytes
returns c =
    let n = c.args.n in
    let points = pairs_taken c.args.x.now c.args.y.now n c.requires.lent.0 in
    rw (sym c.header.ensures, sym points) (wrote_then c.words.ensures (wrote_then c.put_pairs.ensures c.put_ring.ensures))
