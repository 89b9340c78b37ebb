-- `resolve` meets its contract: the start, then the picks and the end.
use Rattle.std.proofs.Common.{◌∙◌}
use Rattle.geometry.specs.Spots.{spots}
use Rattle.box_tree.specs.Tree.{ring_tree}
use Rattle.resolve.proofs.Picking.{as_no_picks, begun}
use Rattle.resolve.proofs.resolve.resolve.Goals as goal

pub begin-requires : goal.begin-requires
begin-requires c =
    let p = c.requires in
    let ok = as_no_picks c.args.set.now.vertices (spots c.args.points) c.args.polygon.now.ring.now c.args.picks.now p.1 in
    (p.0, rw c.as_slice.ensures ok.1, p.2, p.3)

pub go_on-requires : goal.go_on-requires
go_on-requires c =
    let a = c.args in
    let (few, run) = begun a.set.now.vertices (spots a.points) a.polygon.now.ring.now a.picks.now c.requires.1 c.as_slice.ensures a.polygon.now.indexed c.begin.ensures.holds in
    rw c.begin.ensures.same.vertices (c.requires.0, few, c.begin.ensures.tree ∙ (λ t. ring_tree a.set.now.vertices (spots a.points) (c.as_slice.ensures t)), (_, run))

pub returns-clause-ended : goal.returns-clause-ended
returns-clause-ended c =
    let a = c.args in
    let (_, run) = begun a.set.now.vertices (spots a.points) a.polygon.now.ring.now a.picks.now c.requires.1 c.as_slice.ensures a.polygon.now.indexed c.begin.ensures.holds in
    (rw c.begin.ensures.same.vertices at c.go_on.ensures.ended) _ run
