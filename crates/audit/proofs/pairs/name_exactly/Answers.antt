-- `name_exactly` meets its contract.
use Rattle.std.proofs.Common.{◌≡◌, sym, subst, ◌∙◌, ◌-◌, ◌*◌, ◌≤◌, length, arith}
use Rattle.geometry.specs.Spots.{spots}
use Rattle.polygon.specs.Ring.{IsRing}
use Rattle.polygon.proofs.Index.{indexed_of}
use Rattle.audit.specs.Marks.{MarksAll, SomeUnfit}
use Rattle.audit.proofs.Deciding.{marks_decide, unfit_decides}
use Rattle.audit.proofs.pairs.name_exactly.Goals as goal

pub mark_all-requires : goal.mark_all-requires
mark_all-requires g c =
    let (ring, board, room) = c.requires.1.0 in
    let n : length c.args.ring.now ≡ c.args.points.n = ring.len in
    λ κs l. (
      l,
      (
        (
          indexed_of (subst (λ m. IsRing m c.args.ring.now) (sym n) ring) c.rebuild_index.ensures,
          omega (arith, n, board.three),
          omega (arith, n, c.args.points.lent.few),
          subst (λ m. m * (m - 1) ≤ length c.args.table.now) (sym n) room,
        ),
        c.requires.1.1,
      ),
    )

pub returns-then-mark_all-clause-exact : goal.returns-then-mark_all-clause-exact
returns-then-mark_all-clause-exact g c =
    let (ring, board, room) = c.requires.1.0 in
    let n : length c.args.ring.now ≡ c.args.points.n = ring.len in
    marks_decide c.args.points.n (spots c.args.points) board c.args.ring.now ring g.d c.mark_all.new.table
    (subst (λ m. MarksAll m c.args.ring.now g.d c.mark_all.new.table) n (c.mark_all.ensures.marked c.if-mark_all.true)) c.all_agree.ensures

pub returns-else-mark_all-clause-exact : goal.returns-else-mark_all-clause-exact
returns-else-mark_all-clause-exact g c =
    let (ring, board, room) = c.requires.1.0 in
    let n : length c.args.ring.now ≡ c.args.points.n = ring.len in
    c.if-mark_all.false
    ∙ unfit_decides c.args.points.n (spots c.args.points) board c.args.ring.now ring g.d (subst (λ m. SomeUnfit m c.args.ring.now g.d) n (c.mark_all.ensures.unfit c.if-mark_all.false))
