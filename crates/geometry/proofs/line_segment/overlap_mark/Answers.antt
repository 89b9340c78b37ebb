-- `overlap_mark` meets its contract: it is compared with each end.
use mathlib.Core.Path.{refl, sym, ◌∙◌, ap₂}
use mathlib.Core.Bool.{◌&&◌, ◌||◌}
use Rattle.geometry.specs.Segment.{exclusive, inclusive}
use Rattle.geometry.proofs.Derived.{same_is}
use Rattle.geometry.proofs.Choosing.{taken, left}
use Rattle.geometry.proofs.line_segment.overlap_mark.Goals as goal

pub returns-then-eq : goal.returns-then-eq
returns-then-eq c =
    let s = c.args in
    let ends = ap₂ ◌&&◌ (ap₂ ◌||◌ (c.eq.ensures ∙ same_is s.v s.a) (c.eq-2.ensures ∙ same_is s.v s.b)) (ap₂ ◌||◌ (c.eq-3.ensures ∙ same_is s.v s.c) (c.eq-4.ensures ∙ same_is s.v s.d)) in
    (refl, taken _ exclusive inclusive (sym ends ∙ c.if-eq.true))

pub returns-else-eq : goal.returns-else-eq
returns-else-eq c =
    let s = c.args in
    let ends = ap₂ ◌&&◌ (ap₂ ◌||◌ (c.eq.ensures ∙ same_is s.v s.a) (c.eq-2.ensures ∙ same_is s.v s.b)) (ap₂ ◌||◌ (c.eq-3.ensures ∙ same_is s.v s.c) (c.eq-4.ensures ∙ same_is s.v s.d)) in
    (refl, left _ exclusive inclusive (sym ends ∙ c.if-eq.false))
