use native.Mathlib.Omega.{arith}
use Prim.Native.Nat.{◌-◌, ◌<◌}
use mathlib.Core.Path.{refl, ◌∙◌, ap}
use Rattle.polygon.specs.Place.{position}
use Rattle.moves.specs.Walk.{ring_of, point_of}
use Rattle.moves.proofs.RingPositions.{at_id}
use Rattle.checks.proofs.Least.{least_more, least_lt}
use Rattle.checks.proofs.start.least_at.Goals as goal

pub lesser_at-least-requires : goal.lesser_at-least-requires
lesser_at-least-requires c =
    let v = c.args.on in
    let n = v.points.n in
    let below : c.loop-i.i < n = omega (arith, c.loop-i-test.true, c.size-size.ensures) in
    let last : c.loop-i.i - 1 < n = omega arith in
    (record { size = c.size-size.ensures; below = below }, rw c.loop-i.invariant (record { size = refl; below = least_lt n (point_of v) (ring_of v) (c.loop-i.i - 1) last }))

pub loop-i-preserved : goal.loop-i-preserved
loop-i-preserved c =
    let v = c.args.on in
    let n = v.points.n in
    c.lesser_at-least.ensures ∙ ap (position n) (least_more n (point_of v) (ring_of v) c.loop-i.i c.loop-i.least.id.0 (omega (arith, c.loop-i.auto.i)) (at_id c.loop-i.invariant))
