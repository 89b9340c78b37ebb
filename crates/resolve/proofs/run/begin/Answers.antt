-- `begin` meets its contract: no records, then the sweeps of the ring's edges.
use Rattle.std.proofs.Common.{◌∙◌}
use Rattle.geometry.specs.Spots.{spots}
use Rattle.box_tree.specs.Tree.{ring_tree}
use Rattle.intersection_set.specs.Set.{buffers_in}
use Rattle.intersection_set.proofs.Starting.{sized_cleared}
use Rattle.resolve.proofs.Picking.{start_ring, start_few, start_board, start_room}
use Rattle.resolve.proofs.run.begin.Goals as goal

pub build-requires : goal.build-requires
build-requires c =
    let n = c.args.set.now.vertices in
    let q = c.requires in
    rw q.0 (start_ring n (spots c.args.points) c.args.ring.now q.1, q.3)

pub pairs-requires : goal.pairs-requires
pairs-requires c =
    let n = c.args.set.now.vertices in
    let q = c.requires in
    let pt = spots c.args.points in
    let r = c.args.ring.now in
    let e = c.clear.ensures in
    rw e.same.vertices (
      q.0,
      start_ring n pt r q.1,
      start_board n pt r q.1,
      c.build.ensures ∙ (λ t. ring_tree (q.0 t) pt r),
      (_, e.empty n (start_few n pt r q.1) (sized_cleared (buffers_in c.args.set.now) _ e.cleared q.2), start_room n pt r q.1),
    )

pub returns-clause-holds : goal.returns-clause-holds
returns-clause-holds c =
    let n = c.args.set.now.vertices in
    let q = c.requires in
    let pt = spots c.args.points in
    let r = c.args.ring.now in
    let e = c.clear.ensures in
    (rw e.same.vertices at c.pairs.ensures.holds) _ (e.empty n (start_few n pt r q.1) (sized_cleared (buffers_in c.args.set.now) _ e.cleared q.2)) (start_room n pt r q.1)
