-- The parts of the line are written one after the other.
use Rattle.std.proofs.Common.{◌≡◌, w32, to_z, of_z, rules}
use Rattle.job.specs.Text.{point_line}
use Rattle.job.proofs.Writing.{wrote_then}
use Rattle.job.proofs.report.put_point.Goals as goal

pub returns : goal.returns
unfolding point_line
returns c =
    let x : to_z w32 (of_z w32 c.args.p.x) ≡ c.args.p.x = search rules in
    let y : to_z w32 (of_z w32 c.args.p.y) ≡ c.args.p.y = search rules in
    rw (x, y) at (wrote_then c.integer.ensures (wrote_then c.text.ensures (wrote_then c.integer-2.ensures c.text-2.ensures)))
