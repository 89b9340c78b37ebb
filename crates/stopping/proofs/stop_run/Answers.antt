-- `stop_run` meets its contract: what the run leaves is saved, or its refusal is answered.
use Rattle.std.proofs.Common.{refl, ◌∙◌, take, arith}
use Rattle.std.proofs.lemmas.Result.{err_from_is_err_and}
use Rattle.two_opt.specs.Lent.{loan_of}
use Rattle.stopping.proofs.Stops.{full_enough, refused_stop, saved_stop, saved_within}
use Rattle.stopping.proofs.stop_run.Goals as goal

pub returns-in_err-live-clause-saved : goal.returns-in_err-live-clause-saved
returns-in_err-live-clause-saved c =
    let p = c.args.points in
    let r = c.two_opt_moves-done in
    let q = err_from_is_err_and c.from_residual.result c.from_residual.ensures.1 in
    rw (q.1, q.2)
    (refused_stop p.n p.x.now p.y.now c.args.picks.now _ _ _ r.ensures.entry p.lent c.requires.0 (record { ring = refl; records = refl; tree = omega arith })
    c.in_err-live.field-0.0 c.args.out.now (c.in_err-live.ensures (take p.n r.new.work.ring.now)))

pub returns-clause-saved : goal.returns-clause-saved
returns-clause-saved c =
    let p = c.args.points in
    let r = c.two_opt_moves-done in
    saved_stop p.n p.x.now p.y.now c.args.picks.now _ (loan_of r.new.work) _ r.ensures.entry p.lent c.requires.0 (record { ring = refl; records = refl; tree = omega arith })
    (full_enough p.n (loan_of r.new.work) c.requires.0 (r.ensures.same.sizes ∙ refl)) c.in_ok-live.live c.args.out.now c.requires.1
    (c.in_ok-live.ensures (take p.n r.new.work.ring.now)) c.save.ensures

pub returns-clause-within : goal.returns-clause-within
returns-clause-within c =
    let p = c.args.points in
    let r = c.two_opt_moves-done in
    saved_within p.n p.x.now p.y.now c.args.picks.now _ (loan_of r.new.work) _ r.ensures.entry p.lent c.requires.0 (record { ring = refl; records = refl; tree = omega arith })
    (full_enough p.n (loan_of r.new.work) c.requires.0 (r.ensures.same.sizes ∙ refl)) c.in_ok-live.live c.args.out.now c.requires.1
    (c.in_ok-live.ensures (take p.n r.new.work.ring.now)) c.save.ensures
