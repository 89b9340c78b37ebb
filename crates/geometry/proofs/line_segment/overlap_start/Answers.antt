-- `overlap_start` meets its contract: the greater of the lesser ends.
use mathlib.Core.Path.{◌∙◌, ap, ap₂}
use Rattle.geometry.specs.Plane.{max_point}
use Rattle.geometry.specs.Lent.{spot}
use Rattle.geometry.proofs.Derived.{lesser_is, greater_is}
use Rattle.geometry.proofs.line_segment.overlap_start.Goals as goal

pub returns : goal.returns
returns c =
    let s = c.args in
    ap spot c.max.ensures ∙ greater_is c.min.result c.min-2.result
    ∙ ap₂ max_point (ap spot c.min.ensures ∙ lesser_is s.a s.b) (ap spot c.min-2.ensures ∙ lesser_is s.c s.d)
