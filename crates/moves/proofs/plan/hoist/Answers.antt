-- `hoist` meets its contract: on a board the search for two edges that meet on one line is never none.
use Rattle.moves.specs.Walk.{ring_of, point_of}
use Rattle.moves.proofs.KinkSearch.{never_nothing}
use Rattle.moves.proofs.plan.hoist.Goals as goal

pub unreachable-requires : goal.unreachable-requires
unreachable-requires c =
    let v = c.args.da in
    let p = c.requires in
    never_nothing v.points.n (point_of v) (ring_of v) v.on_ring.0 p.1 v.on_ring.2 p.0.below p.2 c.in_default.is c.kink_and_edge.ensures
