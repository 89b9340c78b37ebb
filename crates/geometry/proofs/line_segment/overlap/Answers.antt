-- `overlap` meets its contract: where they begin to overlap is compared with where they end.
use mathlib.Core.Path.{◌∙◌, ap₂}
use Rattle.geometry.specs.Plane.{lt_point}
use Rattle.geometry.proofs.Derived.{less_is}
use Rattle.geometry.proofs.line_segment.overlap.Goals as goal

pub returns : goal.returns
returns c = c.lt.ensures ∙ less_is c.overlap_start.result c.overlap_end.result ∙ ap₂ lt_point c.overlap_start.ensures c.overlap_end.ensures
