-- `is_colinear` meets its contract: it reads the points that `point_id` answers.
use mathlib.Core.Path.{◌≡◌, ◌∙◌, ap, subst⁻¹}
use Prim.Native.Nat.{◌<◌}
use Rattle.geometry.specs.Plane.{collinear}
use Rattle.geometry.specs.Spots.{spots}
use Rattle.polygon.specs.Ring.{next, prev, at}
use Rattle.polygon.proofs.Positions.{next_lt, prev_lt}
use Rattle.moves.proofs.RingPositions.{at_id}
use Rattle.checks.proofs.start.is_colinear.Goals as goal

pub point_id-requires-2 : goal.point_id-requires-2
point_id-requires-2 g c = c.requires.names.asked c.args.here.id.0 c.requires.here.1

pub returns : goal.returns
returns g c =
    let p = c.args.points in
    let pt = spots p in
    let i = c.args.here.id.0 in
    let l = c.requires.here.1 in
    let from : c.prev.result.id.0 ≡ prev p.n i = at_id c.prev.ensures ∙ ap (λ n. prev n i) c.requires.here.0 in
    let to : c.next.result.id.0 ≡ next p.n i = at_id c.next.ensures ∙ ap (λ n. next n i) c.requires.here.0 in
    λ ring is.
    let before : c.point_id.result.0 ≡ at ring (prev p.n i) = is c.prev.result.id.0 c.point_id.result (subst⁻¹ (λ j. j < p.n) from (prev_lt p.n i l)) c.point_id.ensures ∙ ap (at ring) from in
    let here : c.point_id-2.result.0 ≡ at ring i = is i c.point_id-2.result l c.point_id-2.ensures in
    let after : c.point_id-3.result.0 ≡ at ring (next p.n i) = is c.next.result.id.0 c.point_id-3.result (subst⁻¹ (λ j. j < p.n) to (next_lt p.n i l)) c.point_id-3.ensures ∙ ap (at ring) to in
    c.is_colinear.ensures
    ∙ (λ t. collinear (c.at-before.ensures t) (c.at-point.ensures t) (c.at-after.ensures t))
    ∙ (λ t. collinear (pt (before t)) (pt (here t)) (pt (after t)))
