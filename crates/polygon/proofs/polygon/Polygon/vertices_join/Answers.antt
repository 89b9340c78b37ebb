use Rattle.std.proofs.Common.{sym, ◌∙◌}
use Rattle.polygon.proofs.PositionLoops.{coming_goes}
use Rattle.polygon.proofs.polygon.Polygon.vertices_join.Goals as goal

pub loop-pt2-preserved : goal.loop-pt2-preserved
loop-pt2-preserved c =
    let (same, come) = c.loop-pt2.invariant in
    let s = c.swap_positions.ensures in
    ((s.same.0 ∙ same.0, s.same.1 ∙ same.1), coming_goes come c.prev-prev.ensures (sym c.eq.ensures ∙ c.if-eq.false) s.ring)
