-- `meet_at` meets its contract: the edge at the other position is another, so that it is met where the two meet.
use Rattle.std.proofs.Common.{◌∙◌, ap, arith}
use Rattle.geometry.specs.Spots.{spots}
use Rattle.index_edge.specs.Number.{edge_of}
use Rattle.polygon.specs.Ring.{next, at}
use Rattle.polygon.specs.Edges.{edge_at}
use Rattle.sweeps.specs.Query.{met}
use Rattle.sweeps.proofs.Ends.{edge_is, met_at}
use Rattle.audit.proofs.pairs.meet_at.Goals as goal

pub returns : goal.returns
returns c =
    let (ring, distinct, three, ij, lj) = c.requires in
    let n = c.args.points.n in
    let r = c.args.ring.now in
    let e = ap edge_of c.new-a.ensures.1 ∙ c.edge_at.ensures ∙ ap (λ m. edge_at m r c.args.i.0) c.size-size.ensures in
    let v = c.see-from.ensures.number ∙ c.position_to_point_id.ensures in
    let w = c.see-to.ensures.number ∙ c.position_to_point_id-2.ensures ∙ ap (λ p. at r p.id.0) c.next.ensures ∙ ap (λ m. at r (next m c.args.j.0)) c.size-size.ensures in
    c.compare.ensures.meets ∙ (λ k. met (spots (c.new-a.ensures.0 k)) (e k) (edge_is n r c.args.j.0 v w k)) ∙ met_at ring distinct three c.args.i.0 (omega (arith, ij, lj)) c.args.j.0 ij lj
