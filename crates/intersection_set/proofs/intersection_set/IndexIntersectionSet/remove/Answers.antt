-- `remove` meets its contract: each call's contract is one step of `pool_remove`.
use Rattle.intersection_set.specs.Set.{pool_in}
use Rattle.intersection_set.proofs.Tangles.{lower_ok}
use Rattle.intersection_set.proofs.Lengths.{read_at, unlink_ok, unlink_ok_2, remove_steps}
use Rattle.intersection_set.proofs.intersection_set.IndexIntersectionSet.remove.Goals as goal

pub unlink-requires : goal.unlink-requires
unlink-requires c =
    let p = pool_in c.args.self.now in
    let s = c.args.s.0 in
    let k = c.release.ensures.same.1 in
    let e = rw k.ends at c.edges_at-isect.ensures in
    let l = rw k.links at c.neighbours_at.ensures in
    rw (k.heads, k.links, k.ends) (unlink_ok c.args.self.now.vertices s p c.requires (read_at p s e l))

pub unlink-requires-2 : goal.unlink-requires-2
unlink-requires-2 c =
    let p = pool_in c.args.self.now in
    let s = c.args.s.0 in
    let k = c.release.ensures.same.1 in
    let e = rw k.ends at c.edges_at-isect.ensures in
    let l = rw k.links at c.neighbours_at.ensures in
    let u = rw (k.heads, k.links, k.ends) at c.unlink.ensures in
    rw k.ends (unlink_ok_2 c.args.self.now.vertices s p c.requires (read_at p s e l) u)

pub lower_both-requires : goal.lower_both-requires
lower_both-requires c =
    let p = pool_in c.args.self.now in
    let s = c.args.s.0 in
    let k = c.release.ensures.same.1 in
    let e = rw k.ends at c.edges_at-isect.ensures in
    let l = rw k.links at c.neighbours_at.ensures in
    rw k.tangles (lower_ok c.args.self.now.vertices s p c.requires (read_at p s e l))

pub returns-clause-removed : goal.returns-clause-removed
returns-clause-removed c =
    let p = pool_in c.args.self.now in
    let s = c.args.s.0 in
    let r = c.release.ensures in
    let k = r.same.1 in
    let e = rw k.ends at c.edges_at-isect.ensures in
    let l = rw k.links at c.neighbours_at.ensures in
    let u = rw (k.heads, k.links, k.ends) at c.unlink.ensures in
    let v = rw k.ends at c.unlink-2.ensures in
    let t = rw k.tangles at c.lower_both.ensures in
    rw k.ends (remove_steps c.args.self.now.vertices s p (read_at p s e l) u v r.order r.free r.counts k.ages t)
