-- A run over the first entries: the parts that check 2 asks for are long enough.
use mathlib.Core.Path.{refl, ◌∙◌, subst⁻¹}
use Rattle.geometry.specs.Spots.{spots}
use Rattle.polygon.specs.Ring.{IsRing}
use Rattle.polygon.proofs.Index.{indexed_of}
use Rattle.intersection_set.specs.Pool.{lent}
use Rattle.two_opt.specs.Entry.{Loan, loan}
use Rattle.two_opt.specs.Lent.{loan_of}
use Rattle.two_opt.proofs.Answering.{exact_room, part_length, ran_parts}
use Rattle.take_up.proofs.go_on_with.Goals as goal

pub go_on_in-requires-clause-lent : goal.go_on_in-requires-clause-lent
go_on_in-requires-clause-lent c =
    let a = c.args in
    let (enough, index, start) = c.requires.lent in
    let (board, fit, few) = c.requires.image in (
      indexed_of (subst⁻¹ (IsRing a.points.n) start fit.ring) index,
      exact_room a.points.n c.record_size-size.result (loan_of a.work.now) c.record_size-size.ensures enough,
      part_length c.tree_size.result a.work.now.tree.now c.tree_size.ensures enough.in_tree,
    )

pub returns-clause-ran : goal.returns-clause-ran
returns-clause-ran c =
    let a = c.args in
    let n = a.points.n in
    let was : Loan = loan_of a.work.now in
    let (enough, index, start) = c.requires.lent in
    let size = c.record_size-size in
    let new = c.go_on_in.new in
    let same = c.go_on_in.auto in
    let parts : Loan = loan new.ring new.index (lent new.heads new.ends new.links new.ages new.dense new.reverse new.free new.tangles) new.tree in
    let room = exact_room n size.result was size.ensures enough in
    ran_parts n size.result c.tree_size.result was parts size.ensures c.tree_size.ensures
    (same.ring ∙ part_length n was.ring refl enough.in_ring)
    (same.index ∙ part_length n was.index refl enough.in_index)
    (record { in_heads = same.heads ∙ room.in_heads; in_ends = same.ends ∙ room.in_ends; in_links = same.links ∙ room.in_links; in_ages = same.ages ∙ room.in_ages; in_dense = same.dense ∙ room.in_dense; in_reverse = same.reverse ∙ room.in_reverse; in_free = same.free ∙ room.in_free; in_tangles = same.tangles ∙ room.in_tangles })
    (same.tree ∙ part_length c.tree_size.result was.tree c.tree_size.ensures enough.in_tree)
    (spots a.points) _ a.picks.now c.go_on_in.ensures.tree c.go_on_in.ensures.ended
