-- A box as the code holds it, in the lanes of one vector.
use Rattle.std.specs.Prelude.{◌≡◌, List, ℤ}
use Rattle.std.specs.Int.RustNames.{FitsSigned}
use mir.Syntax.{w32}
use Rattle.geometry.specs.Lent.{coord}
use Rattle.box_tree.specs.Tree.{four, read_box}

-- There are four, and no more, and each fits 32 bits.
pub record Lanes (l : List ℤ) : Type 0 where
  pub whole : four (read_box l) ≡ l
  pub left : FitsSigned w32 (coord l 0)
  pub low : FitsSigned w32 (coord l 1)
  pub right : FitsSigned w32 (coord l 2)
  pub high : FitsSigned w32 (coord l 3)
