-- `is_inside` meets its contract: its parts are those of the definition, in another order, and the keys order as the points do.
use mathlib.Core.Path.{◌≡◌, refl, sym, ◌∙◌, ap}
use mathlib.Core.Bool.{Bool, true, false, not, ◌&&◌}
use Rattle.geometry.specs.Plane.{lt_point, min_point, max_point, collinear}
use Rattle.geometry.specs.Lent.{spot}
use Rattle.geometry.proofs.Reading.{read_64}
use Rattle.geometry.proofs.Ordering.{between_by}
use Rattle.geometry.proofs.line_segment.is_inside.Goals as goal

out_of_order : (k o : Bool) → not o ≡ true → false ≡ (k && o)
out_of_order true true e = e
out_of_order true false e = refl
out_of_order false o e = refl

in_order : (k o : Bool) → not o ≡ false → k ≡ (k && o)
in_order true true e = refl
in_order true false e = e
in_order false o e = refl

pub returns-then-not-keys_between : goal.returns-then-not-keys_between
returns-then-not-keys_between c =
    let order_is : let s = c.args in c.keys_between.result ≡ (lt_point (min_point (spot s.a.point) (spot s.b.point)) (spot s.v.point) && lt_point (spot s.v.point) (max_point (spot s.a.point) (spot s.b.point))) = let s = c.args in
    between_by (spot s.a.point) (spot s.b.point) (spot s.v.point) s.a.near s.b.near s.v.near
    (read_64 c.order_key.type_inv c.order_key.ensures)
    (read_64 c.order_key-2.type_inv c.order_key-2.ensures)
    (read_64 c.order_key-3.type_inv c.order_key-3.ensures)
    c.keys_between.ensures in
    let s = c.args in
    out_of_order (collinear (spot s.a.point) (spot s.b.point) (spot s.v.point)) (lt_point (min_point (spot s.a.point) (spot s.b.point)) (spot s.v.point) && lt_point (spot s.v.point) (max_point (spot s.a.point) (spot s.b.point))) (ap not (sym order_is ∙ c.if-not-keys_between.true))

pub returns : goal.returns
returns c =
    let order_is : let s = c.args in c.keys_between.result ≡ (lt_point (min_point (spot s.a.point) (spot s.b.point)) (spot s.v.point) && lt_point (spot s.v.point) (max_point (spot s.a.point) (spot s.b.point))) = let s = c.args in
    between_by (spot s.a.point) (spot s.b.point) (spot s.v.point) s.a.near s.b.near s.v.near
    (read_64 c.order_key.type_inv c.order_key.ensures)
    (read_64 c.order_key-2.type_inv c.order_key-2.ensures)
    (read_64 c.order_key-3.type_inv c.order_key-3.ensures)
    c.keys_between.ensures in
    let s = c.args in
    c.is_colinear.ensures
    ∙ in_order (collinear (spot s.a.point) (spot s.b.point) (spot s.v.point)) (lt_point (min_point (spot s.a.point) (spot s.b.point)) (spot s.v.point) && lt_point (spot s.v.point) (max_point (spot s.a.point) (spot s.b.point))) (ap not (sym order_is ∙ c.if-not-keys_between.false))
