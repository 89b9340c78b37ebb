-- `go_on` meets its contract: the picks, the end.
use mathlib.Core.Path.{sym, ◌∙◌}
use mathlib.Core.Bool.{cond}
use lib.Dec.{eqb}
use native.Mathlib.Omega.{arith}
use Rattle.geometry.specs.Spots.{spots}
use Rattle.intersection_set.specs.Set.{buffers_in}
use Rattle.machine.specs.Answer.{finish}
use Rattle.resolve.proofs.Ending.{ran_ring, ran_left, ran_index, ran_ended}
use Rattle.resolve.proofs.resolve.go_on.Goals as goal

pub finish-requires : goal.finish-requires
finish-requires c =
    let p = c.requires in
    let run = (c.run-moves.ensures.ran p.3.0 p.3.1).0 in
    let three = run.board.three in
    (p.0 ∙ sym (ran_ring run).len, omega (arith, p.0), rw p.0 c.run-moves.ensures.tree)

pub returns-clause-ended : goal.returns-clause-ended
returns-clause-ended c = λ s h.
    let e = c.run-moves.ensures in
    let ran = e.ran s h in
    let ring = c.finish.ensures.ring ∙ (λ t. cond (eqb (c.len-left.ensures t) 0) (finish (c.requires.0 t) (spots c.args.points) c.run-moves.new.polygon.ring.now) c.run-moves.new.polygon.ring.now) in (
      record { moves = sym ran.1; cross = c.len-cross.ensures ∙ h.holds.stored.live; left = c.len-left.ensures ∙ ran_left ran.0 },
      ran_ended (buffers_in c.run-moves.new.set) ran.0 ring (ran_index (eqb c.run-moves.new.set.counts.live 0) ran.0 ring c.finish.new.polygon.indexed),
    )
