-- `refill` meets its contract: the slots wait in the order of ages, the pushes in that order take them, and the dense order is that of the slots.
use mathlib.Core.Path.{ap}
use Rattle.intersection_set.specs.Holds.{Stack}
use Rattle.intersection_set.proofs.Starting.{sized_cleared}
use Rattle.refill.specs.Filling.{slots_by_age}
use Rattle.refill.proofs.Filling.{all_wait, all_held, refreed}
use Rattle.refill.proofs.Fitting.{fit_fills}
use Rattle.refill.proofs.refill.Goals as goal

pub stack_slots-requires : goal.stack_slots-requires
stack_slots-requires g c κs within =
    let (_, (_, (lent, ((pt, board, fit), (count, (can, (ages, _))))))) = c.requires in
    let n = c.args.set.now.vertices in
    (within, ((n, fit_fills n pt board g.image fit lent.0, lent.1.in_free), (count, (can, ages))))

pub push_waiting-requires : goal.push_waiting-requires
push_waiting-requires g c κs within =
    let (_, (_, (lent, ((pt, board, fit), (count, (_, (_, (can, reads)))))))) = c.requires in
    let n = c.args.set.now.vertices in
    let fills = fit_fills n pt board g.image fit lent.0 in
    let r = c.clear_waiting.ensures in
    let sized = sized_cleared _ c.clear_waiting.new.self.counts r.cleared (refreed c.stack_slots.ensures.long lent.1) in
    let stack : Stack c.clear_waiting.new.self.free.now (slots_by_age g.image.lines) = rw (ap (λ b. b.free) r.cleared) c.stack_slots.ensures.stack in
    let held = all_wait n g.image.lines fills count (λ l. r.holds n l lent.0 sized) stack in
    (within, (rw r.same.vertices fills, (count, (rw r.same.vertices held, (can, reads)))))

pub returns-clause-holds : goal.returns-clause-holds
returns-clause-holds g c =
    let (_, (_, (lent, ((pt, board, fit), (count, _))))) = c.requires in
    let n = c.args.set.now.vertices in
    all_held n g.image.lines (fit_fills n pt board g.image fit lent.0) count (c.order_by_slot.ensures.holds n)
    (rw c.clear_waiting.ensures.same.vertices at c.push_waiting.ensures.holds)
