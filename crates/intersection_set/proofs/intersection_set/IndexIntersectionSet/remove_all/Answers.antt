-- `remove_all` meets its contract: each turn removes the newest record, until there is none.
use mathlib.Core.Path.{refl, ◌∙◌}
use native.Mathlib.Omega.{arith}
use Rattle.intersection_set.specs.Set.{pool_in}
use Rattle.intersection_set.proofs.Buffers.{same_start, same_then}
use Rattle.intersection_set.proofs.Removing.{left_start, left_head, left_some, left_fewer, left_next, left_none}
use Rattle.intersection_set.proofs.intersection_set.IndexIntersectionSet.remove_all.Goals as goal

pub loop-newest-init : goal.loop-newest-init
loop-newest-init c =
    let s = c.args.self.now in
    record { same = same_start s; ends = refl; left = left_start (pool_in s) c.requires.1.0 c.requires.0 c.requires.1.1 }

pub by_edge-requires : goal.by_edge-requires
by_edge-requires c = let v = c.loop-newest.invariant in left_head v.left v.same.vertices

pub remove-requires : goal.remove-requires
remove-requires c = let v = c.loop-newest.invariant in left_some v.left v.same.vertices c.in-Some.ensures.0 (omega (arith, c.in-Some.ensures.1))

pub loop-newest-smaller : goal.loop-newest-smaller
loop-newest-smaller c =
    let v = c.loop-newest.invariant in
    left_fewer v.left v.same.vertices c.in-Some.ensures.0 (omega (arith, c.in-Some.ensures.1)) c.remove.ensures.removed

pub loop-newest-preserved : goal.loop-newest-preserved
loop-newest-preserved c =
    let v = c.loop-newest.invariant in
    let r = c.remove.ensures in
    record {
      same = same_then v.same r.same;
      ends = r.ends ∙ v.ends;
      left = left_next v.left v.same.vertices c.in-Some.ensures.0 (omega (arith, c.in-Some.ensures.1)) r.removed;
    }

pub returns-clause-removed : goal.returns-clause-removed
returns-clause-removed c =
    let v = c.loop-newest.invariant in
    λ s h. left_none v.left v.same.vertices s c.requires.0 h c.in_default.ensures.0
