-- The lines of the first i edges are written, and their counts summed.
use Rattle.std.proofs.Common.{◌≡◌, ◌*◌, ◌≤◌, length}
use Rattle.algebra.specs.Sums.{sum_to}
use Rattle.polygon.specs.Edges.{edge_at}
use Rattle.job.specs.Tallies.{tally}
use Rattle.job.specs.Text.{edge_lines}
use Rattle.job.specs.Writing.{Wrote}
use Rattle.job.proofs.report.put_edges.Given as goal

abbrev pub invariant-loop-i : goal.invariant-loop-i
invariant-loop-i l =
    let ring = l.told.ring.now in
    record {
      lines : Wrote l.initial.w l.w (edge_lines (tally l.told) ring l.i);
      short : length (edge_lines (tally l.told) ring l.i) ≤ 23 * l.i;
      total : l.total ≡ sum_to (λ i. tally l.told (edge_at (length ring) ring i)) l.i;
      bound : l.total ≤ 65535 * l.i;
    }
