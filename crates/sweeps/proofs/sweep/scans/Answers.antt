-- `scans` meets its contract: a turn sweeps the edge at its place in the list.
use mathlib.Core.Path.{◌≡◌, ◌∙◌, subst, subst⁻¹}
use mathlib.Core.List.{map}
use native.Mathlib.Omega.{arith}
use lib.ListN.{length, length-map}
use Rattle.geometry.specs.Spots.{spots}
use Rattle.index_edge.specs.Number.{edge_of}
use Rattle.polygon.specs.Edges.{edges}
use Rattle.intersection_set.specs.Store.{Store}
use Rattle.intersection_set.specs.Within.{Proper}
use Rattle.intersection_set.specs.Holds.{Holds}
use Rattle.intersection_set.proofs.Buffers.{same_then}
use Rattle.sweeps.specs.declared.candidate.Against.TheVariants.{Others}
use Rattle.sweeps.proofs.Several.{in_edges, edge_there, sweeps_all, next_sweep, fits_now}
use Rattle.sweeps.proofs.sweep.scans.Goals as goal

pub sweep-requires : goal.sweep-requires
sweep-requires c =
    let n = c.args.set.now.vertices in
    let v = c.loop-edge.invariant in
    let p = c.requires in
    let q = p.5 in
    let i = c.loop-edge.edge-index in
    let xs = c.args.inserted.now in
    let l = in_edges xs c.loop-edge-test.true in
    let e = edge_there xs i c.loop-edge-test.true in
    let fits = fits_now (spots c.args.points) n c.args.ring.now Others (map edge_of xs) i q.0 l e q.2 in
    rw v.same.vertices (p.0, p.1, p.2, p.3, subst⁻¹ (Proper n) e (p.4 i l), (_, v.holds q.0 q.1 q.2, fits))

pub loop-edge-preserved : goal.loop-edge-preserved
loop-edge-preserved c =
    let n = c.args.set.now.vertices in
    let v = c.loop-edge.invariant in
    let d = c.sweep.ensures in
    let i = c.loop-edge.edge-index in
    let xs = c.args.inserted.now in
    let l = in_edges xs c.loop-edge-test.true in
    let e = edge_there xs i c.loop-edge-test.true in
    let pt = spots c.args.points in
    record {
      same = same_then v.same d.same;
      free = d.free ∙ v.free;
      holds =
          λ s h f.
          subst (Holds n _) (next_sweep pt n c.args.ring.now Others (map edge_of xs) i s l e)
          ((rw v.same.vertices at d.holds) _ (v.holds s h f) (fits_now pt n c.args.ring.now Others (map edge_of xs) i s l e f));
    }

pub returns-clause-holds : goal.returns-clause-holds
returns-clause-holds c =
    let n = c.args.set.now.vertices in
    let xs = c.args.inserted.now in
    let e : c.loop-edge.edge-index ≡ length (map edge_of xs) = omega (arith, length-map xs edge_of) in
    let all = λ (s : Store). sweeps_all (spots c.args.points) Others (edges n c.args.ring.now) (map edge_of xs) c.loop-edge.edge-index s e in
    λ s h f. subst (Holds n _) (all s) (c.loop-edge.invariant.holds s h f)
