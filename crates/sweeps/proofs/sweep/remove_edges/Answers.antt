-- `remove_edges` meets its contract: a turn removes all of the edge at its place in the list.
use mathlib.Core.Path.{◌≡◌, ◌∙◌, subst, subst⁻¹}
use mathlib.Core.List.{map}
use native.Mathlib.Omega.{arith}
use lib.ListN.{length, length-map}
use Rattle.index_edge.specs.Number.{edge_of}
use Rattle.intersection_set.specs.Within.{Proper}
use Rattle.intersection_set.specs.Holds.{Holds}
use Rattle.intersection_set.proofs.Buffers.{same_then}
use Rattle.sweeps.proofs.Several.{in_edges, edge_there, next_removal, removes_of_all}
use Rattle.sweeps.proofs.sweep.remove_edges.Goals as goal

pub remove_all-requires : goal.remove_all-requires
remove_all-requires c =
    let v = c.loop-edge.invariant in
    let p = c.requires in
    let l = c.loop-edge-test.true in
    let xs = c.args.removed.now in
    let i = c.loop-edge.edge-index in
    rw v.same.vertices (subst⁻¹ (Proper c.args.set.now.vertices) (edge_there xs i l) (p.0 i (in_edges xs l)), (_, v.holds p.1.0 p.1.1))

pub loop-edge-preserved : goal.loop-edge-preserved
loop-edge-preserved c =
    let v = c.loop-edge.invariant in
    let d = c.remove_all.ensures in
    let l = c.loop-edge-test.true in
    let xs = c.args.removed.now in
    let i = c.loop-edge.edge-index in
    record {
      same = same_then v.same d.same;
      ends = d.ends ∙ v.ends;
      holds =
          λ s h.
          subst (Holds c.args.set.now.vertices _) (next_removal (map edge_of xs) i s (in_edges xs l) (edge_there xs i l))
          (rw v.same.vertices at d.removed _ (v.holds s h));
    }

pub returns-clause-removed : goal.returns-clause-removed
returns-clause-removed c =
    let xs = c.args.removed.now in
    let e : c.loop-edge.edge-index ≡ length (map edge_of xs) = omega (arith, length-map xs edge_of) in
    λ s h. subst (Holds c.args.set.now.vertices _) (removes_of_all (map edge_of xs) c.loop-edge.edge-index s e) (c.loop-edge.invariant.holds s h)
