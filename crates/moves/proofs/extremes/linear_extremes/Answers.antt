-- `linear_extremes` meets its contract: its corners are those of the run.
use mathlib.Core.Path.{◌∙◌}
use Rattle.polygon.specs.Ring.{dist}
use Rattle.moves.specs.Walk.{ring_of, point_of}
use Rattle.moves.specs.declared.extremes.Direction.TheVariants.{On}
use Rattle.moves.proofs.RunSteps.{moved_corner, back_lt, on_lt}
use Rattle.moves.proofs.extremes.linear_extremes.Goals as goal

pub distance-requires : goal.distance-requires
distance-requires c =
    let v = c.args.at in
    rw (c.corner-min.ensures, moved_corner On c.next.ensures c.corner-max.ensures) (back_lt (point_of v) (ring_of v) v.on_ring.2, on_lt (point_of v) (ring_of v) v.on_ring.2)

pub returns : goal.returns
returns c =
    let e = c.corner-min.ensures in
    let f = moved_corner On c.next.ensures c.corner-max.ensures in
    let d = c.distance.ensures ∙ (λ t. dist (e t).size (e t).id.0 (f t).id.0) in
    λ t. record { from = e t; edges = d t }
