-- `test_edges` meets its contract: a turn tests the edge at one position.
use Rattle.std.specs.Prelude.{◌≡◌, refl, Bool, true, false, ◌+◌}
use Rattle.std.proofs.Common.{◌∙◌, ap, arith}
use mir.Val.{bool_byte}
use Rattle.algebra.specs.Counting.{one}
use Rattle.geometry.specs.Spots.{spots}
use Rattle.index_edge.specs.Number.{edge_of}
use Rattle.polygon.specs.Ring.{at}
use Rattle.sweeps.specs.Query.{met, other}
use Rattle.sweeps.proofs.Ends.{edge_is}
use Rattle.sweeps.proofs.Testing.{kept_none, kept_room, kept_next, kept_tested, kept_all}
use Rattle.sweeps.proofs.query.test_edges.Goals as goal

pub loop-at-init : goal.loop-at-init
loop-at-init c = kept_none c.args.near.now

pub keep-count-requires : goal.keep-count-requires
keep-count-requires c =
    let i = c.loop-at.at-index in (
      kept_room c.args.near.now i c.loop-at.invariant c.loop-at-test.true c.requires.4,
      omega (arith, c.requires.3 i c.loop-at-test.true, c.args.points.lent.few),
    )

pub overflow_add-tested : goal.overflow_add-tested
overflow_add-tested c =
    let few = kept_tested c.args.near.now c.loop-at.at-index c.loop-at.invariant in grind (arith, few, c.loop-at-test.true, c.from-tested.ensures)

-- a Boolean as a number
byte : (b : Bool) → bool_byte b ≡ one b
byte true = refl
byte false = refl

pub loop-at-preserved : goal.loop-at-preserved
loop-at-preserved c =
    let s = c.args in
    let i = c.loop-at.at-index in
    let r = s.ring.now in
    let there = edge_is s.points.n r (at s.near.now i) c.see-from.ensures.number (c.see-to.ensures.number ∙ ap (at r) c.next_place.ensures.0) in
    kept_next s.near.now i c.loop-at.invariant c.loop-at-test.true
    (c.compare-compared.ensures.meets ∙ (λ t. met (spots (c.new-a.ensures.0 t)) (edge_of (c.new-a.ensures.1 t)) (there t)))
    (c.compare-compared.ensures.other ∙ (λ t. other (edge_of (c.new-a.ensures.1 t)) (there t)))
    c.keep-count.ensures
    (ap (λ k. c.loop-at.tested + k) (c.from-tested.ensures ∙ byte c.compare-compared.result.other))

pub returns : goal.returns
returns c = kept_all c.args.near.now c.loop-at.at-index c.loop-at.invariant (omega (arith, c.loop-at-test.false))
