-- `stack_slots` meets its contract: ages are below the count and differ, so each slot has an entry of its own.
use mathlib.Core.Path.{◌∙◌}
use native.Mathlib.Omega.{arith}
use lib.ListN.{length-set}
use Rattle.refill.proofs.Filling.{age_below, stack_more, stacked}
use Rattle.refill.proofs.stack_slots.Goals as goal

pub overflow_sub-free-in-loop-i : goal.overflow_sub-free-in-loop-i
overflow_sub-free-in-loop-i g c =
    let (_, ((n, fills, long), (count, (_, gives)))) = c.requires in
    let age = gives c.loop-i.i c.age.result c.loop-i-test.true c.age.ensures in
    omega (arith, count, age, age_below n g.lines fills c.loop-i.i (omega (arith, count, c.loop-i-test.true)))

pub loop-i-preserved : goal.loop-i-preserved
loop-i-preserved g c =
    let (_, ((n, fills, long), (count, (_, gives)))) = c.requires in
    let age = gives c.loop-i.i c.age.result c.loop-i-test.true c.age.ensures in
    let q = c.loop-i.free in
    let (same, stacked) = c.loop-i.invariant in
    let more = stack_more n g.lines fills q c.loop-i.i (omega (arith, count, c.loop-i-test.true)) (omega (arith, fills.room, long, same)) stacked in
    (length-set q _ _ ∙ same, rw (age, count) more)

pub returns-clause-stack : goal.returns-clause-stack
returns-clause-stack g c =
    let (_, ((n, fills, long), (count, (_, gives)))) = c.requires in
    stacked n g.lines fills c.loop-i.free (λ j h. c.loop-i.invariant.1 j (omega (arith, h, count, c.loop-i-test.false)))
