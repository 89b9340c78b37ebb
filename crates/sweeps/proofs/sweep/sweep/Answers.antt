-- `sweep` meets its contract: a turn pushes the record of an edge that was found, if it is asked for.
use Rattle.std.specs.Prelude.{refl}
use Rattle.std.proofs.Common.{rules, ◌∙◌, subst, arith}
use mathlib.Core.Path.{subst⁻¹}
use Rattle.geometry.specs.Spots.{spots}
use Rattle.index_edge.specs.Number.{edge_of}
use Rattle.intersection_set.specs.Set.{pool_in}
use Rattle.intersection_set.specs.Holds.{Holds}
use Rattle.intersection_set.proofs.Buffers.{same_then}
use Rattle.intersection_set.proofs.Pushing.{push_allowed}
use Rattle.sweeps.proofs.Sweeping.{sweep_none, sweep_all, turn_at, place_on_ring, another, next_turn, may_now}
use Rattle.sweeps.proofs.sweep.sweep.Goals as goal

pub loop-at-init : goal.loop-at-init
loop-at-init c =
    let s = c.args in
    record {
      same = search rules;
      free = refl;
      holds = λ u h f. subst⁻¹ (Holds s.set.now.vertices _) (sweep_none (spots s.points) s.against (edge_of s.edge) u) h;
    }

pub edge_at-requires : goal.edge_at-requires
edge_at-requires c =
    let p = c.requires in
    place_on_ring p.1 p.2 p.4 p.0 c.query-count.ensures.found c.size.ensures c.loop-at.at-index c.loop-at-test.true

pub candidate-requires : goal.candidate-requires
candidate-requires c =
    let p = c.requires in
    another (turn_at p.1 p.2 p.4 p.0 c.query-count.ensures.found c.size.ensures c.loop-at.at-index c.loop-at-test.true c.edge_at.ensures)

pub loop-at-preserved-in_default : goal.loop-at-preserved-in_default
loop-at-preserved-in_default c =
    let p = c.requires in
    let t = turn_at p.1 p.2 p.4 p.0 c.query-count.ensures.found c.size.ensures c.loop-at.at-index c.loop-at-test.true c.edge_at.ensures in
    let v = c.loop-at.invariant in
    record {
      same = v.same;
      free = v.free;
      holds = λ u h f. subst (Holds c.args.set.now.vertices _) (next_turn t c.args.against u c.in_default.ensures) (v.holds u h f);
    }

pub push-requires : goal.push-requires
push-requires c =
    let p = c.requires in
    let t = turn_at p.1 p.2 p.4 p.0 c.query-count.ensures.found c.size.ensures c.loop-at.at-index c.loop-at-test.true c.edge_at.ensures in
    let v = c.loop-at.invariant in
    let (s, h, f) = p.5 in
    let k = c.in-Some.ensures in
    rw v.same.vertices
    (push_allowed c.args.set.now.vertices (pool_in c.loop-at.set) _ (v.holds s h f) _ _ k.1.smaller k.1.larger (may_now t c.args.against s k.0 f))

pub loop-at-preserved : goal.loop-at-preserved
loop-at-preserved c =
    let p = c.requires in
    let t = turn_at p.1 p.2 p.4 p.0 c.query-count.ensures.found c.size.ensures c.loop-at.at-index c.loop-at-test.true c.edge_at.ensures in
    let b = c.args.against in
    let v = c.loop-at.invariant in
    let k = c.in-Some.ensures in
    let d = c.push.ensures in
    record {
      same = same_then v.same d.same;
      free = d.free ∙ v.free;
      holds =
          λ u h f.
          subst (Holds c.args.set.now.vertices _) (next_turn t b u k.0)
          (rw v.same.vertices at d.holds _ _ _ k.1.smaller k.1.larger (v.holds u h f) (may_now t b u k.0 f));
    }

pub returns-clause-holds : goal.returns-clause-holds
returns-clause-holds c =
    let p = c.requires in
    let all = sweep_all p.1 p.2 p.4 p.0 c.query-count.ensures.found c.args.against c.loop-at.at-index in
    λ u h f. subst (Holds c.args.set.now.vertices _) (all u (omega (arith, c.loop-at-test.false))) (c.loop-at.invariant.holds u h f)
