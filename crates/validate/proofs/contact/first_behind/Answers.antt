-- `first_behind` meets its contract: a turn tests the edge at one position.
use Rattle.std.proofs.Common.{◌∙◌, ap, arith}
use Rattle.geometry.specs.Spots.{spots}
use Rattle.index_edge.specs.Number.{edge_of}
use Rattle.polygon.specs.Ring.{at}
use Rattle.polygon.specs.Edges.{edge_at}
use Rattle.sweeps.specs.Query.{met}
use Rattle.sweeps.proofs.Ends.{met_at}
use Rattle.validate.proofs.Behind.{tested_none, tested_found, tested_next, seen_as, there}
use Rattle.validate.proofs.contact.first_behind.Goals as goal

pub loop-j-init : goal.loop-j-init
loop-j-init c =
    (omega arith, tested_none c.requires.3 (seen_as (ap spots c.new-a.ensures.0) (ap edge_of c.new-a.ensures.1 ∙ c.edge_at.ensures ∙ ap (λ m. edge_at m c.args.ring.now c.args.id.0) c.size.ensures) (ap (at c.args.ring.now) c.next_place.ensures.0) c.see-from.ensures))

pub returns-then-is_met : goal.returns-then-is_met
returns-then-is_met c =
    let h = c.requires in
    let (ij, t) = c.loop-j.invariant in
    let lj = c.loop-j-test.true in
    let f = there t ij lj (c.see-to.ensures.number ∙ ap (at c.args.ring.now) c.next_place-in-loop-j.ensures.0) in
    let e = ap edge_of c.new-a.ensures.1 ∙ c.edge_at.ensures ∙ ap (λ m. edge_at m c.args.ring.now c.args.id.0) c.size.ensures in
    let m = c.is_met.ensures ∙ (λ k. met (spots (c.new-a.ensures.0 k)) (e k) (f k)) ∙ met_at h.0 h.1 h.2 c.args.id.0 h.3 c.loop-j.j ij lj in
    tested_found t lj m c.if-is_met.true

pub loop-j-preserved : goal.loop-j-preserved
loop-j-preserved c =
    let h = c.requires in
    let (ij, t) = c.loop-j.invariant in
    let lj = c.loop-j-test.true in
    let w = c.see-to.ensures.number ∙ ap (at c.args.ring.now) c.next_place-in-loop-j.ensures.0 in
    let e = ap edge_of c.new-a.ensures.1 ∙ c.edge_at.ensures ∙ ap (λ m. edge_at m c.args.ring.now c.args.id.0) c.size.ensures in
    let m = c.is_met.ensures ∙ (λ k. met (spots (c.new-a.ensures.0 k)) (e k) (there t ij lj w k)) ∙ met_at h.0 h.1 h.2 c.args.id.0 h.3 c.loop-j.j ij lj in
    (omega (arith, ij), tested_next t lj m c.if-is_met.false (seen_as (ap spots c.new-a.ensures.0) e (ap (at c.args.ring.now) c.next_place-in-loop-j.ensures.0) c.see-to.ensures))
