-- `overlap_end` meets its contract: the lesser of the greater ends.
use mathlib.Core.Path.{◌∙◌, ap, ap₂}
use Rattle.geometry.specs.Plane.{min_point}
use Rattle.geometry.specs.Lent.{spot}
use Rattle.geometry.proofs.Derived.{lesser_is, greater_is}
use Rattle.geometry.proofs.line_segment.overlap_end.Goals as goal

pub returns : goal.returns
returns c =
    let s = c.args in
    ap spot c.min.ensures ∙ lesser_is c.max.result c.max-2.result
    ∙ ap₂ min_point (ap spot c.max.ensures ∙ greater_is s.a s.b) (ap spot c.max-2.ensures ∙ greater_is s.c s.d)
