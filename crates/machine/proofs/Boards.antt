-- The boards' rows hold, all together, by computation.
use mathlib.Core.Path.{◌≡◌, refl}
use mathlib.Core.Bool.{true}
use Rattle.geometry.specs.Contact.{overlap_of, kind}
use Rattle.machine.specs.Board.{kind_edges, meet_edges}
use Rattle.machine.specs.Boards.{all_hold, rows, square, four, seven, far_end, stretch_back, stretch_on, gap, wrap, more}

pub rows_hold : all_hold rows ≡ true
unfolding rows square four seven far_end stretch_back stretch_on gap wrap more meet_edges kind_edges kind overlap_of
rows_hold = refl
