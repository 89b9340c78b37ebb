use native.Mathlib.Omega.{arith}
use Prim.Native.Nat.{suc, ◌-◌, ◌+◌}
use mathlib.Core.Path.{◌≡◌, refl, sym, ◌∙◌, ap}
use Rattle.moves.specs.Walk.{ring_of, place_of, point_of}
use Rattle.moves.specs.Runs.{step, corner}
use Rattle.moves.proofs.RingWalk.{walk_reads}
use Rattle.moves.proofs.Carried.{straight, carried_first, carried_on}
use Rattle.moves.proofs.RunSteps.{run_stops, run_goes, run_ends}
use Rattle.moves.proofs.extremes.corner.Goals as goal

pub loop-init : goal.loop-init
loop-init c =
    let v = c.args.start in
    let all : v.points.n - 0 ≡ v.points.n = omega arith in (
      record { points = refl; ring = refl; same = ap (λ k. corner c.args.way v.points.n (point_of v) k (ring_of v) (place_of v)) all },
      carried_first c.args.way (rw c.opposite.ensures at c.step.ensures) c.point-behind.ensures c.point-here.ensures,
    )

pub returns-then-not-is_colinear : goal.returns-then-not-is_colinear
returns-then-not-is_colinear c =
    let way = c.args.way in
    let i = c.loop.invariant in
    run_stops way i.0 (sym (c.is_colinear.ensures ∙ straight way i.1 (walk_reads i.0 (step way) c.step-next.ensures c.point-ahead.ensures)) ∙ c.if-not-is_colinear.true)

pub loop-preserved : goal.loop-preserved
loop-preserved c =
    let way = c.args.way in
    let i = c.loop.invariant in
    let fewer : suc (c.args.start.points.n - (c.loop.counter + 1)) ≡ c.args.start.points.n - c.loop.counter = omega (arith, c.loop-test.true) in (
      run_goes way i.0 fewer (sym (c.is_colinear.ensures ∙ straight way i.1 (walk_reads i.0 (step way) c.step-next.ensures c.point-ahead.ensures)) ∙ c.if-not-is_colinear.false) c.step-next.ensures,
      carried_on way i.0 c.step-next.ensures i.1 c.point-ahead.ensures,
    )

pub returns : goal.returns
returns c = run_ends c.args.way c.loop.invariant.0 (let z : c.args.start.points.n - c.loop.counter ≡ 0 = omega (arith, c.loop-test.false) in z)
