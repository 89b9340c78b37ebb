use Rattle.std.proofs.Common.{refl, ap, ◌∙◌, arith, length}
use Rattle.algebra.specs.Sums.{sum_next}
use Rattle.polygon.specs.Edges.{edge_at}
use Rattle.job.specs.Tallies.{tally}
use Rattle.job.specs.Text.{edge_lines}
use Rattle.job.proofs.Writing.{wrote_none, wrote_then}
use Rattle.job.proofs.Lines.{edges_next, edges_short}
use Rattle.job.proofs.report.put_edges.Goals as goal

pub loop-i-init : goal.loop-i-init
unfolding edge_lines
loop-i-init c = record { lines = wrote_none c.args.w.now; short = omega arith; total = refl; bound = omega arith }

pub loop-i-preserved : goal.loop-i-preserved
loop-i-preserved c =
    let v = c.loop-i.invariant in
    let count = tally c.args.told in
    let ring = c.args.told.ring.now in
    let e = c.edge-e.ensures in
    let k = c.count-count.ensures in
    record {
      lines = rw (← edges_next count ring c.loop-i.i e k) (wrote_then v.lines c.put_edge.ensures);
      short = edges_short count ring c.loop-i.i e k (omega arith) (omega arith) (omega arith) v.short;
      total = sum_next (λ i. count (edge_at (length ring) ring i)) c.loop-i.i v.total (k ∙ ap count e);
      bound = omega (arith, v.bound);
    }
