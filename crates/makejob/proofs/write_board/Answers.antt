-- A board makes a job, which fits the buffer.
use Rattle.std.proofs.Common.{refl, ap, ◌∙◌, ◌+◌, ◌*◌, length, arith, length-take}
use Rattle.job.specs.Encoded.{Fitting}
use Rattle.job.proofs.Encoding.{fitted, made_length}
use Rattle.makejob.proofs.write_board.Goals as goal

pub unwrap-n-requires : goal.unwrap-n-requires
unwrap-n-requires c =
    let x = length c.deref.result.now in
    let y = length c.deref-2.result.now in
    let picks = length c.deref-3.result.now in
    let b = c.args.board.now.fits in
    let ex = ap length c.deref.ensures.0 in
    let ey = ap length c.deref-2.ensures.0 in
    let ep = ap length c.deref-3.ensures.0 in
    let f : Fitting x y picks 16384 (20 + 8 * x + 4 * picks) =
    record { same = omega (arith, b.same, ex, ey); few = omega (arith, b.few, ex); short = omega (arith, b.short, ex, ep); fits = omega (arith, b.short, ex, ep); is = refl } in
    rw (c.write_job.ensures.answer ∙ fitted x y picks 16384 (20 + 8 * x + 4 * picks) f) refl

pub slice_bounds-out-end : goal.slice_bounds-out-end
slice_bounds-out-end c = (made_length (rw c.unwrap-n.ensures at c.write_job.ensures)).0

pub slice_bounds-write_all-end : goal.slice_bounds-write_all-end
slice_bounds-write_all-end c =
    let h = (made_length (rw c.unwrap-n.ensures at c.write_job.ensures)).0 in simp length-take (omega arith)
