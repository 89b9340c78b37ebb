-- A run over the first entries: the parts that check 2 asks for are long enough.
use mathlib.Core.Bool.{false}
use mathlib.Core.Path.{refl, ◌∙◌}
use lib.ListN.{take}
use Rattle.geometry.specs.Spots.{spots}
use Rattle.polygon.proofs.Index.{indexed_of}
use Rattle.intersection_set.specs.Pool.{lent}
use Rattle.machine.specs.Answer.{too_many}
use Rattle.machine.proofs.Accepted.{accepted}
use Rattle.two_opt.specs.Entry.{Loan, loan}
use Rattle.two_opt.specs.Lent.{loan_of}
use Rattle.two_opt.proofs.Answering.{exact_room, part_length, ran_parts}
use Rattle.two_opt.proofs.workspace.Workspace.resolve.Goals as goal

pub resolve_in-requires : goal.resolve_in-requires
resolve_in-requires c =
    let a = c.args in
    let (enough, index, ok) = c.requires in
    let ring = ((accepted a.points.n (spots a.points) false (too_many a.picks.now) (take a.points.n a.self.now.ring.now)).0 ok).ring in
    (indexed_of ring index, ok, exact_room a.points.n c.record_size-size.result (loan_of a.self.now) c.record_size-size.ensures enough, part_length c.tree_size.result c.args.self.now.tree.now c.tree_size.ensures enough.in_tree)

pub returns-clause-ran : goal.returns-clause-ran
returns-clause-ran c =
    let a = c.args in
    let n = a.points.n in
    let was : Loan = loan_of a.self.now in
    let (enough, _, _) = c.requires in
    let size = c.record_size-size in
    let new = c.resolve_in.new in
    let same = c.resolve_in.auto in
    let parts : Loan = loan new.ring new.index (lent new.heads new.ends new.links new.ages new.dense new.reverse new.free new.tangles) new.tree in
    let room = exact_room n size.result was size.ensures enough in
    ran_parts n size.result c.tree_size.result was parts size.ensures c.tree_size.ensures
    (same.ring ∙ part_length n was.ring refl enough.in_ring)
    (same.index ∙ part_length n was.index refl enough.in_index)
    (record { in_heads = same.heads ∙ room.in_heads; in_ends = same.ends ∙ room.in_ends; in_links = same.links ∙ room.in_links; in_ages = same.ages ∙ room.in_ages; in_dense = same.dense ∙ room.in_dense; in_reverse = same.reverse ∙ room.in_reverse; in_free = same.free ∙ room.in_free; in_tangles = same.tangles ∙ room.in_tangles })
    (same.tree ∙ part_length c.tree_size.result was.tree c.tree_size.ensures enough.in_tree)
    (spots a.points) _ a.picks.now c.resolve_in.ensures.tree c.resolve_in.ensures.ended
