use Rattle.std.proofs.Common.{sym, ◌∙◌}
use Rattle.polygon.proofs.PositionLoops.{reversing_met, reversing_met_back, reversing_goes}
use Rattle.polygon.proofs.polygon.Polygon.reverse_around.Goals as goal

pub returns-then-eq-clause-ring : goal.returns-then-eq-clause-ring
returns-then-eq-clause-ring c = reversing_met c.loop-pt1.invariant.1 c.swap_positions.ensures.ring c.next-pt1.ensures (sym c.eq.ensures ∙ c.if-eq.true)

pub returns-then-eq-2-clause-ring : goal.returns-then-eq-2-clause-ring
returns-then-eq-2-clause-ring c =
    reversing_met_back c.loop-pt1.invariant.1 c.swap_positions.ensures.ring c.next-pt1.ensures (sym c.eq.ensures ∙ c.if-eq.false) c.prev-pt2.ensures (sym c.eq-in-loop-pt1.ensures ∙ c.if-eq-2.true)

pub loop-pt1-preserved : goal.loop-pt1-preserved
loop-pt1-preserved c =
    let (same, turn) = c.loop-pt1.invariant in
    let s = c.swap_positions.ensures in
    ((s.same.0 ∙ same.0, s.same.1 ∙ same.1), reversing_goes turn s.ring c.next-pt1.ensures (sym c.eq.ensures ∙ c.if-eq.false) c.prev-pt2.ensures (sym c.eq-in-loop-pt1.ensures ∙ c.if-eq-2.false))
