-- `new` meets its contract: each coordinate is read as it is held.
use Rattle.std.proofs.Common.{arith}
use Rattle.std.proofs.lemmas.Int.{to_z-of_z}
use Rattle.box_tree.specs.Boxes.{span, unite}
use Rattle.box_tree.proofs.bounds.Bounds.new.Goals as goal

pub returns : goal.returns
unfolding span unite
returns c = grind (arith, to_z-of_z)
