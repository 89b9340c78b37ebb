use native.Mathlib.Omega.{arith}
use mathlib.Core.Path.{◌≡◌, sym, ◌∙◌, ap}
use mathlib.Core.Bool.{not}
use Prim.Native.Nat.{suc, ◌+◌, ◌-◌}
use Rattle.geometry.specs.Spots.{spots}
use Rattle.polygon.specs.Ring.{next, prev, stretch}
use Rattle.machine.specs.Board.{kink_at}
use Rattle.moves.specs.Walk.{ring_of, place_of, point_of}
use Rattle.moves.specs.Runs.{points_of, run_edges}
use Rattle.moves.specs.Best.{better, with_kink, over_kinks}
use Rattle.moves.specs.declared.extremes.Direction.TheVariants.{On}
use Rattle.moves.proofs.RingWalk.{Walk, walk_reads, walk_here}
use Rattle.moves.proofs.Carried.{carried_on}
use Rattle.moves.proofs.KinkSearch.{go_on, best_stays, best_moves, kink_is, kink_goes, kinks_stop, kinks_end}
use Rattle.moves.proofs.search.with_run.Goals as goal
use Rattle.moves.proofs.search.with_run.Goals.{then-not-is_inside, else-not-is_inside}

pub loop-init : goal.loop-init
loop-init c =
    let v = c.args.on in
    let s = c.args in
    let n = v.points.n in
    let m = c.at-at.ensures in
    let all : suc s.run.edges - 0 ≡ suc s.run.edges = omega arith in
    let k : Walk v (go_on v s.a s.b s.start) (over_kinks n (point_of v) (ring_of v) (run_edges n s.a s.b) (points_of n s.run) s.start) c.at-at.result (suc s.run.edges - 0) =
    record { points = m.points; ring = m.ring; same = λ t. over_kinks n (point_of v) (ring_of v) (run_edges n s.a s.b) (stretch n (m.position t).id.0 (all t)) s.start } in
    (k, record { behind = walk_reads k prev c.prev.ensures c.point-before.ensures; here = walk_here k c.point-here.ensures })

pub loop-preserved : goal.loop-preserved
loop-preserved c =
    let v = c.args.on in
    let s = c.args in
    let n = v.points.n in
    let i = c.loop.invariant in
    let k = i.0 in
    let p = place_of c.loop.at in
    let b = c.loop.best in
    let kink_here : not c.is_inside.result ≡ kink_at n (point_of v) (ring_of v) p = ap not c.is_inside.ensures ∙ kink_is n (point_of v) (ring_of v) i.1 (walk_reads k next c.next-next.ensures c.point-after.ensures) in
    let best_now : c.if-not-is_inside.best ≡ with_kink n (point_of v) (ring_of v) (run_edges n s.a s.b) p b = elim c.if-not-is_inside.branch [
      | then-not-is_inside w ↦ w.best-is ∙ best_moves n (point_of v) (ring_of v) (run_edges n s.a s.b) p b (sym kink_here ∙ ap not w.if-not-is_inside.true)
          (w.with_kink-best.ensures ∙ (λ t. better (k.points t).n (spots (k.points t)) (k.ring t).now p 0 (run_edges (k.points t).n s.a s.b) b))
      | else-not-is_inside w ↦ w.best-is ∙ best_stays n (point_of v) (ring_of v) (run_edges n s.a s.b) p b (sym kink_here ∙ ap not w.if-not-is_inside.false)
    ] in
    let fewer : suc (suc s.run.edges - (c.loop.counter + 1)) ≡ suc s.run.edges - c.loop.counter = omega (arith, c.loop-test.true) in (
      kink_goes v s.a s.b k fewer best_now c.next-next.ensures,
      carried_on On k c.next-next.ensures i.1 c.point-after.ensures,
    )

-- before the end where no pair can be better, and after all points
pub returns-then-best-eq0 : goal.returns-then-best-eq0
returns-then-best-eq0 c = kinks_stop c.args.on c.args.a c.args.b c.loop.invariant.0 c.if-best-eq0.true

pub returns : goal.returns
returns c = kinks_end c.args.on c.args.a c.args.b c.loop.invariant.0 (let z : suc c.args.run.edges - c.loop.counter ≡ 0 = omega (arith, c.loop-test.false) in z)
