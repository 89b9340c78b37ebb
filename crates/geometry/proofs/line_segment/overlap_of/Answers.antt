-- `overlap_of` meets its contract: its ends are the definition's, and so are their marks.
use mathlib.Core.Path.{◌∙◌, ap}
use Rattle.geometry.specs.Contact.{overlap, mark_at, overlap_of}
use Rattle.geometry.specs.Lent.{spot}
use Rattle.geometry.proofs.line_segment.overlap_of.Goals as goal

pub returns : goal.returns
unfolding overlap_of
returns c =
    let s = c.args in
    let start = c.overlap_mark.ensures in
    let stop = c.overlap_mark-2.ensures in
    let marks = mark_at (spot s.a) (spot s.b) (spot s.c) (spot s.d) in
    λ t.
    overlap ((start.0 ∙ c.overlap_start.ensures) t) ((start.1 ∙ ap marks c.overlap_start.ensures) t) ((stop.0 ∙ c.overlap_end.ensures) t) ((stop.1 ∙ ap marks c.overlap_end.ensures) t)
