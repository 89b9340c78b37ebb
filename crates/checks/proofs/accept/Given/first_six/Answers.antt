-- `first_six` meets its contract: what the first four refuse, all six do, with the same number.
use Rattle.std.proofs.Common.{sym, ◌∙◌, take, arith}
use Rattle.std.proofs.lemmas.Result.{err_from_is_err_and}
use Rattle.refusal.proofs.Numbers.{some_number}
use Rattle.geometry.specs.Lent.{points}
use Rattle.checks.proofs.Checking.{six_by_four}
use Rattle.checks.proofs.accept.Given.first_six.Goals as goal

pub returns-in_err-points-clause-number : goal.returns-in_err-points-clause-number
returns-in_err-points-clause-number c =
    let s = c.args.self in
    let p = err_from_is_err_and c.from_residual.result c.from_residual.ensures.1 in
    let e = c.in_err-points.ensures.number in
    rw (p.1, p.2) (e ∙ sym (six_by_four s.n (points s.x.now s.y.now) s.short s.many (take s.n c.args.ring.now) (omega (arith, e, some_number c.in_err-points.field-0.0))))
