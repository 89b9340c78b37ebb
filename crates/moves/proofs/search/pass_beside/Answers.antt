use native.Mathlib.Omega.{arith}
use mathlib.Core.Path.{◌≡◌, refl, sym, ◌∙◌, ap}
use Rattle.moves.specs.Walk.{ring_of, place_of, point_of}
use Rattle.moves.specs.Beside.{below_at, on_from}
use Rattle.moves.proofs.KinkSearch.{other_side, same_side_lem, one_side}
use Rattle.moves.proofs.Sides.{side_of, on_next, its_next, passes}
use Rattle.moves.proofs.search.pass_beside.Goals as goal

pub loop-passed-init : goal.loop-passed-init
loop-passed-init c = (c.requires.0, λ b after h. refl)

pub next-next-requires : goal.next-next-requires
next-next-requires c = let o = c.loop-passed.invariant.0.on in rw o.size o.below

pub at-requires : goal.at-requires
at-requires c = on_next c.loop-passed.invariant.0.on c.next-next.ensures

pub returns-then-is_above-below : goal.returns-then-is_above-below
returns-then-is_above-below c =
    let i = c.loop-passed.invariant in
    let v = c.args.kink.vertex in
    let s = side_of c.at.ensures c.args.kink.stands c.is_above.ensures ∙ ap (below_at v) (its_next {v = v} i.0.on c.next-next.ensures) in
    record { on = i.0.on; onward = omega arith; same = i.1; across = λ h. other_side _ _ c.if-is_above-below.true ∙ s }

pub loop-passed-preserved : goal.loop-passed-preserved
loop-passed-preserved c =
    let i = c.loop-passed.invariant in
    let v = c.args.kink.vertex in
    let p = c.loop-passed.at in
    let e = its_next {v = v} i.0.on c.next-next.ensures in
    let f = same_side_lem _ _ c.if-is_above-below.false ∙ side_of c.at.ensures c.args.kink.stands c.is_above.ensures in
    let beside = one_side v.points.n (point_of v) (ring_of v) (place_of v) p.id.0 i.0.side (f ∙ ap (below_at v) e) in (
      record { on = on_next i.0.on c.next-next.ensures; side = f },
      λ b after h. passes {v = v} b after c.loop-passed.passed i.0.on c.next-next.ensures (omega (arith, c.loop-passed-test.true)) beside ∙ i.1 b after h,
    )

pub returns : goal.returns
returns c =
    let i = c.loop-passed.invariant in
    let all : c.loop-passed.passed ≡ c.args.end = omega (arith, c.requires.1, c.loop-passed-test.false) in
    record { on = i.0.on; onward = c.requires.1; same = λ b after h. ap (λ k. on_from c.args.kink.vertex b after (record { at = c.loop-passed.at; passed = k })) (sym all) ∙ i.1 b after h; across = λ h. absurd (omega arith) }
