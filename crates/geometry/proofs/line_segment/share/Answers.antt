-- `share` meets its contract: each end is compared with each.
use mathlib.Core.Path.{◌∙◌, ap₂}
use mathlib.Core.Bool.{◌||◌}
use Rattle.geometry.proofs.Derived.{same_is}
use Rattle.geometry.proofs.line_segment.share.Goals as goal

pub returns : goal.returns
returns c =
    let s = c.args in
    ap₂ ◌||◌ (ap₂ ◌||◌ (c.eq.ensures ∙ same_is s.a s.c) (c.eq-2.ensures ∙ same_is s.a s.d)) (ap₂ ◌||◌ (c.eq-3.ensures ∙ same_is s.b s.c) (c.eq-4.ensures ∙ same_is s.b s.d))
