-- `mark_all` meets its contract: a turn marks one record more.
use Rattle.std.proofs.Common.{rules, ◌≡◌, sym, ap, ◌∙◌, subst, arith, length, replicate, take}
use Rattle.std.proofs.Math.Seq.{take-length}
use Rattle.audit.specs.Marks.{MarksAll, Marked, Unfit}
use Rattle.audit.proofs.Marking.{marks_none, marks_next, unfit_some}
use Rattle.audit.proofs.pairs.mark_all.Goals as goal

pub loop-k-init : goal.loop-k-init
loop-k-init g c =
    let (indexed, three, small, room) = c.requires.1.0 in
    let filled : c.fill.new.self ≡ replicate (length c.args.table.now) 0 = search rules in
    (omega arith, subst (MarksAll (length c.args.ring.now) c.args.ring.now _) (sym filled) (marks_none indexed.ring three (length c.args.table.now) room))

pub returns-then-not-mark-clause-unfit : goal.returns-then-not-mark-clause-unfit
returns-then-not-mark-clause-unfit g c =
    let (indexed, three, small, room) = c.requires.1.0 in
    let e = c.requires.1.1.1.1 c.loop-k.k c.read.result c.loop-k-test.true c.read.ensures in
    let n = length c.args.ring.now in
    λ z. unfit_some indexed.ring three g.d c.loop-k.k (omega (arith, c.loop-k-test.true, c.requires.1.1.0)) c.loop-k.invariant.1
    (subst (λ (T : Type 0). T) (λ t. Unfit n c.args.ring.now (e.0 t) (e.1 t) c.loop-k.table) (c.mark.ensures.unfit c.if-not-mark.true))

pub loop-k-preserved : goal.loop-k-preserved
loop-k-preserved g c =
    let (indexed, three, small, room) = c.requires.1.0 in
    let e = c.requires.1.1.1.1 c.loop-k.k c.read.result c.loop-k-test.true c.read.ensures in
    let n = length c.args.ring.now in (
      omega (arith, c.loop-k-test.true),
      marks_next indexed.ring three g.d c.loop-k.k (omega (arith, c.loop-k-test.true, c.requires.1.1.0)) c.loop-k.invariant.1
          (subst (λ (T : Type 0). T) (λ t. Marked n c.args.ring.now (e.0 t) (e.1 t) c.loop-k.table c.mark.new.table) (c.mark.ensures.marked c.if-not-mark.false)),
    )

pub returns-clause-marked : goal.returns-clause-marked
returns-clause-marked g c =
    let e : c.loop-k.k ≡ length g.d = omega (arith, c.loop-k-test.false, c.loop-k.invariant.0, c.requires.1.1.0) in
    λ z. subst (λ d. MarksAll (length c.args.ring.now) c.args.ring.now d c.loop-k.table) (ap (λ k. take k g.d) e ∙ take-length g.d) c.loop-k.invariant.1
