-- What the derived comparisons of points say, in the words of the definitions.
use mathlib.Core.Path.{◌≡◌}
use mathlib.Core.Bool.{◌&&◌}
use borrow.Author.Rules.{rules}
use Rattle.std.specs.Ordering.{int_eq, ord_min, ord_max, partial_lt}
use Rattle.geometry.specs.Plane.{eq_point, lt_point, min_point, max_point}
use Rattle.geometry.specs.declared.point.Point.{Point}
use Rattle.geometry.specs.declared.point.NearPoint.{NearPoint}
use Rattle.geometry.specs.contracts.point.PointOrd.TheImpl as Order
use Rattle.geometry.specs.contracts.point.PointPartialOrd.TheImpl as Partial
use Rattle.geometry.specs.contracts.point.NearPointOrd.TheImpl as NearOrder
use Rattle.geometry.specs.Lent.{spot}

module _ (a b : Point) where
  pub same_is : (int_eq a.x b.x && int_eq a.y b.y) ≡ eq_point (spot a) (spot b)
  same_is = search rules

  pub lesser_is : spot (ord_min (Order.cmp-value).it a b) ≡ min_point (spot a) (spot b)
  lesser_is = search rules

  pub greater_is : spot (ord_max (Order.cmp-value).it a b) ≡ max_point (spot a) (spot b)
  greater_is = search rules

  pub less_is : partial_lt (Partial.partial_cmp-value).it a b ≡ lt_point (spot a) (spot b)
  less_is = search rules

module _ (a b : NearPoint) where
  pub lesser_near : spot (ord_min (NearOrder.cmp-value).it a b).point ≡ min_point (spot a.point) (spot b.point)
  lesser_near = search rules

  pub greater_near : spot (ord_max (NearOrder.cmp-value).it a b).point ≡ max_point (spot a.point) (spot b.point)
  greater_near = search rules
