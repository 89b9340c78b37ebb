-- `segment_of` meets its contract: its keys are those of the lesser and the greater end.
use mathlib.Core.Path.{refl, ◌∙◌, ap}
use Rattle.geometry.specs.Plane.{min_point, max_point}
use Rattle.geometry.specs.Lent.{spot, order_key}
use Rattle.geometry.specs.declared.point.NearPoint.{NearPoint}
use Rattle.geometry.proofs.Reading.{read_64}
use Rattle.geometry.proofs.Derived.{lesser_near, greater_near}
use Rattle.sweeps.proofs.segment.segment_of.Goals as goal

pub returns : goal.returns
returns c =
    let a = c.point_at-min.result in
    let b = c.point_at-max.result in
    let p = c.point_at-min.ensures in
    let q = c.point_at-max.ensures in
    let lesser = ap (λ (p : NearPoint). spot p.point) c.min.ensures ∙ lesser_near a b ∙ (λ t. min_point (p t) (q t)) in
    let greater = ap (λ (p : NearPoint). spot p.point) c.max.ensures ∙ greater_near a b ∙ (λ t. max_point (p t) (q t)) in
    let low = read_64 c.order_key-low.type_inv (c.order_key-low.ensures ∙ ap order_key lesser) in
    let high = read_64 c.order_key-high.type_inv (c.order_key-high.ensures ∙ ap order_key greater) in
    (refl, record { first = p; second = q; least = low; greatest = high })
