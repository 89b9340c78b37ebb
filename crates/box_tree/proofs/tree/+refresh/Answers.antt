-- `refresh` meets its contract: a part apart from the stretch is right as it is; of any other both halves come back right, and their union is written.
use Rattle.std.proofs.Common.{arith, rules}
use Rattle.box_tree.proofs.Parts.{node_made}
use Rattle.box_tree.proofs.Refreshing.{left_alone, first_held, second_held}
use Rattle.box_tree.proofs.tree.+refresh.Goals as goal

pub returns-then-is_apart : goal.returns-then-is_apart
returns-then-is_apart t c =
    let (part, held) = c.requires in left_alone held part (c.is_apart.ensures _ held.first held.last part.within c.if-is_apart.true)

pub refresh-requires : goal.refresh-requires
refresh-requires t c = (search rules, (search rules, first_held c.requires.1 (omega arith)))

pub refresh-requires-2 : goal.refresh-requires-2
refresh-requires-2 t c = (search rules, (search rules, second_held c.requires.1 (omega arith) _ c.refresh.ensures))

pub returns : goal.returns
returns t c = node_made c.requires.0 (omega arith) _ _ _ _ c.refresh.ensures c.refresh-2.ensures c.write_union.ensures
