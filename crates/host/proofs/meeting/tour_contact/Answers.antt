-- `tour_contact` meets its contract: it is the kind that `contact` names, in numbers.
use mathlib.Core.Path.{◌∙◌, ap}
use Rattle.geometry.specs.Answers.{contact}
use Rattle.host.specs.Numbers.{kind_in_numbers}
use Rattle.host.proofs.Points.{exact}
use Rattle.host.proofs.meeting.tour_contact.Goals as goal

pub returns : goal.returns
returns c =
    let a1 = exact c.ranges.a1x c.ranges.a1y c.point.ensures in
    let a2 = exact c.ranges.a2x c.ranges.a2y c.point-2.ensures in
    let b1 = exact c.ranges.b1x c.ranges.b1y c.point-3.ensures in
    let b2 = exact c.ranges.b2x c.ranges.b2y c.point-4.ensures in
    c.into.ensures ∙ ap kind_in_numbers (c.contact.ensures ∙ (λ t. contact (a1 t) (a2 t) (b1 t) (b2 t)))
