-- `between` meets its contract: its parts are those of the definition.
use mathlib.Core.Path.{◌∙◌, ap, ap₂}
use mathlib.Core.Bool.{not, ◌&&◌}
use Rattle.geometry.specs.Plane.{lt_point}
use Rattle.geometry.specs.Lent.{spot}
use Rattle.geometry.proofs.Derived.{less_is, lesser_is, greater_is}
use Rattle.geometry.proofs.line_segment.between.Goals as goal

pub returns : goal.returns
returns c =
    let s = c.args in
    ap₂ ◌&&◌ (ap not (c.lt.ensures ∙ less_is s.p c.min.result ∙ ap (lt_point (spot s.p)) (ap spot c.min.ensures ∙ lesser_is s.a s.b)))
    (ap not (c.lt-2.ensures ∙ less_is c.max.result s.p ∙ ap (λ m. lt_point m (spot s.p)) (ap spot c.max.ensures ∙ greater_is s.a s.b)))
