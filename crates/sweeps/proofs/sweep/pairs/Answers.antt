-- `pairs` meets its contract: a turn sweeps the ring's edge at i.
use mathlib.Core.Path.{◌∙◌, subst, subst⁻¹}
use native.Mathlib.Omega.{arith}
use Rattle.geometry.specs.Spots.{spots}
use Rattle.polygon.specs.Edges.{edges}
use Rattle.intersection_set.specs.Store.{Store}
use Rattle.intersection_set.specs.Within.{Proper}
use Rattle.intersection_set.specs.Holds.{Holds}
use Rattle.intersection_set.proofs.Buffers.{same_then}
use Rattle.sweeps.specs.declared.candidate.Against.TheVariants.{Greater}
use Rattle.machine.proofs.Bounds.{edges_length}
use Rattle.sweeps.proofs.Ends.{two, proper_at}
use Rattle.sweeps.proofs.Several.{ring_edge, sweeps_all, next_sweep, fits_now}
use Rattle.sweeps.proofs.sweep.pairs.Goals as goal

pub sweep-requires : goal.sweep-requires
sweep-requires c =
    let n = c.args.set.now.vertices in
    let r = c.args.ring.now in
    let v = c.loop-i.invariant in
    let p = c.requires in
    let q = p.4 in
    let i = c.loop-i.i in
    let l = c.loop-i-test.true in
    let e = ring_edge n r i l c.edge_at.ensures in
    let fits = fits_now (spots c.args.points) n r Greater (edges n r) i q.0 (omega (arith, edges_length n r)) e q.2 in
    rw v.same.vertices (p.0, p.1, p.2, p.3, subst⁻¹ (Proper n) c.edge_at.ensures (proper_at p.1 (two p.2) i l), (_, v.holds q.0 q.1 q.2, fits))

pub loop-i-preserved : goal.loop-i-preserved
loop-i-preserved c =
    let n = c.args.set.now.vertices in
    let r = c.args.ring.now in
    let v = c.loop-i.invariant in
    let d = c.sweep.ensures in
    let i = c.loop-i.i in
    let l = c.loop-i-test.true in
    let e = ring_edge n r i l c.edge_at.ensures in
    let pt = spots c.args.points in
    record {
      same = same_then v.same d.same;
      free = d.free ∙ v.free;
      holds =
          λ s h f.
          subst (Holds n _) (next_sweep pt n r Greater (edges n r) i s (omega (arith, edges_length n r)) e)
          ((rw v.same.vertices at d.holds) _ (v.holds s h f) (fits_now pt n r Greater (edges n r) i s (omega (arith, edges_length n r)) e f));
    }

pub returns-clause-holds : goal.returns-clause-holds
returns-clause-holds c =
    let n = c.args.set.now.vertices in
    let l = edges n c.args.ring.now in
    let all = λ (s : Store). sweeps_all (spots c.args.points) Greater l l c.loop-i.i s (omega (arith, edges_length n c.args.ring.now)) in
    λ s h f. subst (Holds n _) (all s) (c.loop-i.invariant.holds s h f)
