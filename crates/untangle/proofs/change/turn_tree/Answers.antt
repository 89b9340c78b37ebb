-- `turn_tree` meets its contract: the stretch that is made anew is the one that the move changed.
use Rattle.std.proofs.Common.{arith}
use Rattle.geometry.specs.Spots.{spots}
use Rattle.polygon.specs.Change.{uncross, hoist}
use Rattle.untangle.proofs.Turning.{held_turned}
use Rattle.untangle.proofs.change.turn_tree.Goals as goal

pub update-requires : goal.update-requires
update-requires c =
    let h = rw c.in-Uncross.is at c.requires in
    let fits = h.1 in
    (h.0, held_turned (spots c.args.points) (uncross c.in-Uncross.from.0 c.in-Uncross.to.0) (omega (arith, fits.la)) fits h.2)

pub update-requires-in-Hoist : goal.update-requires-in-Hoist
update-requires-in-Hoist c =
    let h = rw c.in-Hoist.is at c.requires in
    let fits = h.1 in
    (h.0, held_turned (spots c.args.points) (hoist c.in-Hoist.kink.0 c.in-Hoist.edge.0) (omega (arith, fits.lk)) fits h.2)
