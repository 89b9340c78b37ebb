use native.Mathlib.Omega.{arith}
use Prim.Native.Nat.{◌+◌, ◌≤◌}
use mathlib.Core.Path.{refl, sym, ◌∙◌, ap}
use Rattle.moves.specs.Walk.{ring_of, place_of, point_of}
use Rattle.moves.specs.Beside.{below_at}
use Rattle.moves.proofs.KinkSearch.{below_least, whole_run, pair_here, pair_ends}
use Rattle.moves.proofs.Sides.{side_of, on_next, its_next, passes, held_by}
use Rattle.moves.proofs.search.better_on_run.Goals as goal

pub at-requires : goal.at-requires
at-requires c = record { size = c.requires.0.size; below = c.requires.0.below }

pub loop-edge-init : goal.loop-edge-init
loop-edge-init c = (record { on = record { size = c.requires.0.size; below = c.requires.0.below }; side = side_of c.at.ensures c.args.kink.stands c.is_above-below.ensures }, refl)

pub pass_beside-across-requires : goal.pass_beside-across-requires
pass_beside-across-requires c = (c.loop-edge.invariant.0, omega (arith, c.loop-edge-test.true))

pub returns-then-end-across : goal.returns-then-end-across
returns-then-end-across c =
    let v = c.args.kink.vertex in
    let s = c.args in
    let e = c.pass_beside-across.result in
    let z : c.min-end.result ≤ s.before + s.run.edges = omega (arith, c.min-end.ensures) in
    pair_ends v.points.n (point_of v) (ring_of v) (place_of v) s.best (s.before + s.run.edges) e.at.id.0 e.passed c.min-end.ensures c.if-end-across.true
    ∙ c.pass_beside-across.ensures.same s.best (s.before + s.run.edges) z
    ∙ c.loop-edge.invariant.1
    ∙ whole_run v.points.n (point_of v) (ring_of v) (place_of v) s.best s.before s.run.edges s.run.from.id.0

pub returns-then-holds : goal.returns-then-holds
returns-then-holds c =
    let v = c.args.kink.vertex in
    let s = c.args in
    let e = c.pass_beside-across.result in
    let h = below_least c.min-end.ensures c.if-end-across.false in
    let z : c.min-end.result ≤ s.before + s.run.edges = omega (arith, c.min-end.ensures) in
    pair_here v.points.n (point_of v) (ring_of v) (place_of v) s.best (s.before + s.run.edges) e.at.id.0 e.passed h.0 h.1 (sym (held_by c.at-in-loop-edge.ensures s.kink.stands c.holds.ensures) ∙ c.if-holds.true)
    ∙ c.pass_beside-across.ensures.same s.best (s.before + s.run.edges) z
    ∙ c.loop-edge.invariant.1
    ∙ whole_run v.points.n (point_of v) (ring_of v) (place_of v) s.best s.before s.run.edges s.run.from.id.0

pub loop-edge-preserved : goal.loop-edge-preserved
loop-edge-preserved c =
    let v = c.args.kink.vertex in
    let s = c.args in
    let e = c.pass_beside-across.result in
    let after = s.before + s.run.edges in
    let g = c.pass_beside-across.ensures in
    let z : c.min-end.result ≤ after = omega (arith, c.min-end.ensures) in (
      record { on = on_next g.on c.next.ensures; side = g.across c.if-end-across.false ∙ ap (below_at v) (sym (its_next {v = v} g.on c.next.ensures)) },
      passes {v = v} s.best after e.passed g.on c.next.ensures (below_least c.min-end.ensures c.if-end-across.false).1 (sym (held_by c.at-in-loop-edge.ensures s.kink.stands c.holds.ensures) ∙ c.if-holds.false)
          ∙ g.same s.best after z
          ∙ c.loop-edge.invariant.1,
    )

pub returns : goal.returns
returns c =
    let v = c.args.kink.vertex in
    let s = c.args in
    let e = c.loop-edge.edge in
    pair_ends v.points.n (point_of v) (ring_of v) (place_of v) s.best (s.before + s.run.edges) e.at.id.0 e.passed c.min-end.ensures c.loop-edge-test.false
    ∙ c.loop-edge.invariant.1
    ∙ whole_run v.points.n (point_of v) (ring_of v) (place_of v) s.best s.before s.run.edges s.run.from.id.0
