-- `plan` meets its contract: the ring directs both edges of the record, and they meet where they start.
use mathlib.Core.Path.{◌≡◌, ◌∙◌, subst⁻¹}
use Prim.Native.Nat.{ℕ, ◌<◌}
use Rattle.geometry.specs.Spots.{spots}
use Rattle.index_edge.specs.Number.{edge_of}
use Rattle.polygon.specs.Ring.{IsRing}
use Rattle.machine.specs.Board.{Board}
use Rattle.machine.specs.Search.{plan_at}
use Rattle.moves.specs.Plan.{Met}
use Rattle.moves.proofs.RingPositions.{at_id, at_size, made_of}
use Rattle.moves.proofs.PlanParts.{starts_within, starts_met, directed}
use Rattle.moves.proofs.plan.plan.Goals as goal

pub new-requires : goal.new-requires
new-requires c =
    let p = c.requires in
    let r = c.args.polygon.now.ring.now in
    let ring = subst⁻¹ (λ (m : ℕ). IsRing m r) p.0 c.args.polygon.now.indexed.ring in
    let first = directed r (edge_of c.args.min) p.0 c.direct-da.ensures in
    let second = directed r (edge_of c.args.max) p.0 c.direct-db.ensures in
    (ring, at_size first, (starts_within ring p.1 p.2 (at_id first) (at_id second)).0)

pub move_at-requires : goal.move_at-requires
move_at-requires c =
    let p = c.requires in
    let r = c.args.polygon.now.ring.now in
    let ring = subst⁻¹ (λ (m : ℕ). IsRing m r) p.0 c.args.polygon.now.indexed.ring in
    let first = directed r (edge_of c.args.min) p.0 c.direct-da.ensures in
    let second = directed r (edge_of c.args.max) p.0 c.direct-db.ensures in
    let l = starts_within ring p.1 p.2 (at_id first) (at_id second) in
    let met = starts_met ring p.1 p.2 (at_id first) (at_id second) in
    let e = c.new.ensures in
    let q = made_of (λ n pt r i. (c.direct-db.result.size ≡ n) × (c.direct-db.result.id.0 < n) × Board n pt × Met n pt r i c.direct-db.result.id.0) c.new.result e.0 e.1 e.2 (at_size second, l.1, p.1, met) in
    (record { size = q.0; below = q.1 }, q.2, q.3)

pub returns : goal.returns
returns c =
    let p = c.requires in
    let r = c.args.polygon.now.ring.now in
    let first = directed r (edge_of c.args.min) p.0 c.direct-da.ensures in
    let second = directed r (edge_of c.args.max) p.0 c.direct-db.ensures in
    let e = c.new.ensures in
    c.move_at.ensures
    ∙ (λ t. plan_at (e.0 t).n (spots (e.0 t)) (e.1 t).now (e.2 t).id.0 c.direct-db.result.id.0)
    ∙ (λ t. plan_at c.args.points.n (spots c.args.points) r (at_id first t) (at_id second t))
