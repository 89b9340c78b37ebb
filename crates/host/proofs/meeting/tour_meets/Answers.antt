-- `tour_meets` meets its contract: it is the verdict of `meets` in a number.
use mathlib.Core.Path.{◌∙◌, ap}
use Rattle.geometry.specs.Answers.{meeting}
use Rattle.host.specs.Numbers.{yes_or_no}
use Rattle.host.proofs.Points.{exact}
use Rattle.host.proofs.meeting.tour_meets.Goals as goal

pub returns : goal.returns
returns c =
    let a1 = exact c.ranges.a1x c.ranges.a1y c.point.ensures in
    let a2 = exact c.ranges.a2x c.ranges.a2y c.point-2.ensures in
    let b1 = exact c.ranges.b1x c.ranges.b1y c.point-3.ensures in
    let b2 = exact c.ranges.b2x c.ranges.b2y c.point-4.ensures in
    c.in_number.ensures ∙ ap yes_or_no (c.meets.ensures ∙ (λ t. meeting (a1 t) (a2 t) (b1 t) (b2 t)))
