-- `untangle` meets its contract: each call is one step of the machine's move, in the same order.
use mathlib.Core.Path.{sym, ◌∙◌, subst, subst⁻¹}
use mathlib.Core.List.{map}
use lib.ListN.{length}
use Rattle.geometry.specs.Spots.{spots}
use Rattle.index_edge.specs.Number.{edge_of}
use Rattle.polygon.specs.Ring.{IsRing}
use Rattle.polygon.specs.Edges.{edges}
use Rattle.polygon.specs.Change.{cut, lay, turned, Fits}
use Rattle.polygon.proofs.Index.{index_is}
use Rattle.intersection_set.specs.Store.{removes}
use Rattle.intersection_set.specs.Set.{pool_in}
use Rattle.intersection_set.specs.Holds.{Holds}
use Rattle.machine.specs.Machine.{scans}
use Rattle.moves.specs.Plan.{plan_of}
use Rattle.box_tree.specs.Tree.{ring_tree}
use Rattle.sweeps.specs.Several.{AllProper}
use Rattle.untangle.specs.Running.{state_after}
use Rattle.untangle.proofs.Untangling.{the_board, the_ring, crosses, by_length, plan_asks, at_found, cuts_proper, lays_proper, turned_is_ring, turned_long, room_as, next_running}
use Rattle.untangle.proofs.untangle.untangle.Goals as goal

pub plan-plan-requires : goal.plan-plan-requires
plan-plan-requires c =
    let p = c.requires in
    let run = p.2.3 in
    let pick = p.2.4 in
    (p.0 ∙ sym (the_ring run pick).len, rw p.0 (the_board run pick), rw p.0 (crosses run pick))

pub removed_edges-removed-requires : goal.removed_edges-removed-requires
removed_edges-removed-requires c =
    let p = c.requires.2 in
    let was = c.args.polygon.now in
    rw c.as_slice-before.ensures (was.indexed.ring, was.short, plan_asks p.3 p.4 (by_length p.3 p.4 c.requires.0 c.plan-plan.ensures))

pub inserted_edges-inserted-requires : goal.inserted_edges-inserted-requires
inserted_edges-inserted-requires c =
    let p = c.requires.2 in
    let was = c.args.polygon.now in
    rw c.as_slice-before.ensures (was.indexed.ring, was.short, plan_asks p.3 p.4 (by_length p.3 p.4 c.requires.0 c.plan-plan.ensures))

pub turn_ring-requires : goal.turn_ring-requires
turn_ring-requires c = let p = c.requires.2 in plan_asks p.3 p.4 (by_length p.3 p.4 c.requires.0 c.plan-plan.ensures)

pub remove_edges-requires : goal.remove_edges-requires
remove_edges-requires c =
    let p = c.requires.2 in
    let is_cut = at_found p.3 p.4 (by_length p.3 p.4 c.requires.0 c.plan-plan.ensures) cut (c.as_slice.ensures ∙ (rw c.as_slice-before.ensures at c.removed_edges-removed.ensures)) in
    (subst⁻¹ (AllProper c.args.set.now.vertices) is_cut (cuts_proper p.3 p.4), (_, p.3.holds))

pub turn_tree-requires : goal.turn_tree-requires
turn_tree-requires c =
    let p = c.requires.2 in
    let n = c.args.set.now.vertices in
    let e = by_length p.3 p.4 c.requires.0 c.plan-plan.ensures in
    let is_turned = c.as_slice-ring.ensures ∙ at_found p.3 p.4 e turned c.turn_ring.ensures.ring in
    let len = (the_ring p.3 p.4).len in
    let asks : Fits (length c.args.polygon.now.ring.now) (plan_of c.plan-plan.result) = plan_asks p.3 p.4 e in
    rw c.requires.0 (
      subst⁻¹ (IsRing n) is_turned (turned_is_ring p.3 p.4),
      rw len at asks,
      (_, c.as_slice-ring.ensures ∙ c.turn_ring.ensures.ring ∙ (λ t. turned (len t) (plan_of c.plan-plan.result) c.args.polygon.now.ring.now), c.requires.1),
    )

pub scans-requires : goal.scans-requires
scans-requires c =
    let p = c.requires.2 in
    let e = by_length p.3 p.4 c.requires.0 c.plan-plan.ensures in
    let is_cut = at_found p.3 p.4 e cut (c.as_slice.ensures ∙ (rw c.as_slice-before.ensures at c.removed_edges-removed.ensures)) in
    let is_lay = at_found p.3 p.4 e lay (c.as_slice-2.ensures ∙ (rw c.as_slice-before.ensures at c.inserted_edges-inserted.ensures)) in
    let is_turned = c.as_slice-ring.ensures ∙ at_found p.3 p.4 e turned c.turn_ring.ensures.ring in
    let n = c.args.set.now.vertices in
    let r = c.remove_edges.ensures in
    rw r.same.vertices (
      c.requires.0,
      subst⁻¹ (IsRing n) is_turned (turned_is_ring p.3 p.4),
      the_board p.3 p.4,
      c.turn_tree.ensures ∙ (λ t. ring_tree (c.requires.0 t) (spots c.args.points) c.as_slice-ring.result.now),
      subst⁻¹ (AllProper n) is_lay (lays_proper p.3 p.4),
      (_, r.removed _ p.3.holds, room_as p.3 p.4 is_turned is_lay is_cut),
    )

pub returns-clause-running : goal.returns-clause-running
returns-clause-running c =
    let r = c.remove_edges.ensures in
    let ring = c.turn_ring.new.polygon in
    λ t cs pick run pk.
    let e = by_length run pk c.requires.0 c.plan-plan.ensures in
    let is_cut = at_found run pk e cut (c.as_slice.ensures ∙ (rw c.as_slice-before.ensures at c.removed_edges-removed.ensures)) in
    let is_lay = at_found run pk e lay (c.as_slice-2.ensures ∙ (rw c.as_slice-before.ensures at c.inserted_edges-inserted.ensures)) in
    let is_turned = at_found run pk e turned c.turn_ring.ensures.ring in
    let holds = (rw r.same.vertices at c.scans.ensures.holds) _ (r.removed _ run.holds) (room_as run pk (c.as_slice-ring.ensures ∙ is_turned) is_lay is_cut) in
    next_running run pk is_turned is_lay is_cut (index_is ring.indexed (sym (turned_long run pk is_turned))) (subst (λ l. Holds c.args.set.now.vertices (pool_in c.scans.new.set) (scans (spots c.args.points) (edges c.args.set.now.vertices l) (map edge_of c.as_slice-2.result.now) (removes (map edge_of c.as_slice.result.now) (state_after c.args.set.now.vertices (spots c.args.points) t cs).store))) c.as_slice-ring.ensures holds)
