-- `push` meets its contract: the calls' contracts come to the steps of `pool_push`.
use mathlib.Core.Path.{ap, ◌∙◌}
use native.Mathlib.Omega.{arith}
use lib.ListN.{length}
use Rattle.index_edge.specs.Number.{edge_of}
use Rattle.intersection_set.specs.Pool.{pair_of, nexts_in}
use Rattle.intersection_set.specs.Set.{pool_in}
use Rattle.intersection_set.specs.declared.utils.Counts.{Counts}
use Rattle.intersection_set.proofs.Words.{in_words}
use Rattle.intersection_set.proofs.Lengths.{inside_of, slot_lt, slot_in, taken_pushes, take_ok, append_ok, edges_ok, links_ok, old_ok, old_ok_2, push_steps}
use Rattle.intersection_set.proofs.Pushing.{push_holds}
use Rattle.intersection_set.proofs.intersection_set.IndexIntersectionSet.push.Goals as goal

pub alloc-s-requires : goal.alloc-s-requires
alloc-s-requires c =
    let p = pool_in c.args.self.now in
    let n = c.args.self.now.vertices in
    let good = c.requires.good in
    (take_ok n p good, append_ok n (edge_of c.args.isect.min) (edge_of c.args.isect.max) p _ c.requires (slot_lt n p good c.requires.room))

pub bounds-self-s : goal.bounds-self-s
bounds-self-s c =
    let a = c.args in
    let t = c.alloc-s.ensures in
    inside_of (slot_in a.self.now.vertices (edge_of a.isect.min) (edge_of a.isect.max) (pool_in a.self.now) c.requires t.slot) (ap length t.same.1.ages ∙ c.requires.good.sizes.in_ages)

pub overflow_add-self : goal.overflow_add-self
overflow_add-self c =
    let a = c.args in
    let t = c.alloc-s.ensures in
    omega (arith, c.requires.young, ap (λ (k : Counts). k.pushes) t.counts ∙ taken_pushes a.self.now.counts a.self.now.free.now)

pub put_record-requires : goal.put_record-requires
put_record-requires c =
    let a = c.args in
    let p = pool_in a.self.now in
    let n = a.self.now.vertices in
    let e0 = edge_of a.isect.min in
    let e1 = edge_of a.isect.max in
    let k = c.alloc-s.ensures.same.1 in
    let s = slot_in n e0 e1 p c.requires c.alloc-s.ensures.slot in
    rw (k.ends, k.links)
    (in_words a.self.now.ends.now _ pair_of (edges_ok n e0 e1 p _ c.requires s), in_words a.self.now.links.now _ nexts_in (links_ok n e0 e1 p _ c.requires s))

pub set_link-requires : goal.set_link-requires
set_link-requires c =
    let a = c.args in
    let p = pool_in a.self.now in
    let n = a.self.now.vertices in
    let e0 = edge_of a.isect.min in
    let e1 = edge_of a.isect.max in
    let k = c.alloc-s.ensures.same.1 in
    let s = slot_in n e0 e1 p c.requires c.alloc-s.ensures.slot in
    let w = rw (k.ends, k.links) at c.put_record.ensures in
    let h = rw k.heads at c.take_head-next0.ensures.taken in
    (old_ok n e0 e1 p _ c.requires s w.0 w.2 h.0, c.take_head-next0.ensures.slot)

pub set_link-requires-2 : goal.set_link-requires-2
set_link-requires-2 c =
    let a = c.args in
    let p = pool_in a.self.now in
    let n = a.self.now.vertices in
    let e0 = edge_of a.isect.min in
    let e1 = edge_of a.isect.max in
    let k = c.alloc-s.ensures.same.1 in
    let s = slot_in n e0 e1 p c.requires c.alloc-s.ensures.slot in
    let w = rw (k.ends, k.links) at c.put_record.ensures in
    let h = rw k.heads at c.take_head-next0.ensures.taken in
    (old_ok_2 n e0 e1 p _ c.requires s w.0 w.2 h.0 h.1 c.take_head-next1.ensures.taken.0 c.set_link.ensures.0, c.take_head-next1.ensures.slot)

pub raise_both-requires : goal.raise_both-requires
raise_both-requires c = rw c.alloc-s.ensures.same.1.tangles c.requires.raises

pub returns-clause-pushed : goal.returns-clause-pushed
returns-clause-pushed c =
    let a = c.args in
    let t = c.alloc-s.ensures in
    let k = t.same.1 in
    let w = rw (k.ends, k.links) at c.put_record.ensures in
    let h = rw k.heads at c.take_head-next0.ensures.taken in
    let n = a.self.now.vertices in
    let u = rw k.tangles at c.raise_both.ensures in
    push_steps n (edge_of a.isect.min) (edge_of a.isect.max) (pool_in a.self.now) c.requires t.slot t.counts t.order h c.take_head-next1.ensures.taken w c.set_link.ensures c.set_link-2.ensures t.free k.ages u

pub returns-clause-holds : goal.returns-clause-holds
returns-clause-holds c =
    let a = c.args in
    let t = c.alloc-s.ensures in
    let k = t.same.1 in
    let w = rw (k.ends, k.links) at c.put_record.ensures in
    let h = rw k.heads at c.take_head-next0.ensures.taken in
    let p = pool_in a.self.now in
    let n = a.self.now.vertices in
    let u = rw k.tangles at c.raise_both.ensures in
    let steps = push_steps n (edge_of a.isect.min) (edge_of a.isect.max) p c.requires t.slot t.counts t.order h c.take_head-next1.ensures.taken w c.set_link.ensures c.set_link-2.ensures t.free k.ages u in
    λ e f s ee ef held may. push_holds n p s held e f ee ef may steps
