-- `direct` meets its contract: the index says where the two points stand, and the test is that of the definition.
use Rattle.polygon.proofs.Index.{place_lt}
use Rattle.polygon.proofs.polygon.direct.Goals as goal

pub next-requires : goal.next-requires
next-requires c = place_lt c.requires.0 c.args.edge.min.0 c.requires.2 c.point_id_to_position-min.ensures
