-- `validate` meets its contract: it comes to the exits of the definition.
use Rattle.std.proofs.Common.{◌∙◌, arith}
use Rattle.std.proofs.lemmas.Result.{err_from_is_err_and}
use Rattle.checks.proofs.Checking.{six_given, of_given}
use Rattle.validate.proofs.Checking.{refused_six, is_board, refused_turn, told_contact}
use Rattle.validate.proofs.drawn.validate.Goals as goal

pub returns-in_err-points : goal.returns-in_err-points
returns-in_err-points c =
    let a = c.args in
    let six = c.in_err-points.ensures.number ∙ six_given a.n a.x a.y a.ring.now c.with_ring.ensures in
    let p = err_from_is_err_and c.from_residual.result c.from_residual.ensures.1 in
    rw (p.1, p.2) (refused_six a.n a.x a.y a.ring.now c.in_err-points.field-0.0 six)

pub is_counter_clockwise-requires : goal.is_counter_clockwise-requires
is_counter_clockwise-requires c =
    let a = c.args in
    let p = c.in_ok-points.points in
    let six = c.in_ok-points.ensures.number ∙ six_given a.n a.x a.y a.ring.now c.with_ring.ensures in
    let o = of_given a.n a.x a.y a.ring.now c.with_ring.ensures p c.in_ok-points.ensures.passed in
    let b = is_board a.n a.x a.y a.ring.now p o six in
    (b.0, omega (arith, b.2))

pub returns-then-not-is_counter_clockwise : goal.returns-then-not-is_counter_clockwise
returns-then-not-is_counter_clockwise c =
    let a = c.args in
    let p = c.in_ok-points.points in
    let six = c.in_ok-points.ensures.number ∙ six_given a.n a.x a.y a.ring.now c.with_ring.ensures in
    let o = of_given a.n a.x a.y a.ring.now c.with_ring.ensures p c.in_ok-points.ensures.passed in
    refused_turn a.n a.x a.y a.ring.now p o six c.is_counter_clockwise.ensures c.if-not-is_counter_clockwise.true

pub check_contact-requires : goal.check_contact-requires
check_contact-requires c =
    let a = c.args in
    let p = c.in_ok-points.points in
    let six = c.in_ok-points.ensures.number ∙ six_given a.n a.x a.y a.ring.now c.with_ring.ensures in
    let o = of_given a.n a.x a.y a.ring.now c.with_ring.ensures p c.in_ok-points.ensures.passed in
    is_board a.n a.x a.y a.ring.now p o six

pub returns : goal.returns
returns c =
    let a = c.args in
    let p = c.in_ok-points.points in
    let six = c.in_ok-points.ensures.number ∙ six_given a.n a.x a.y a.ring.now c.with_ring.ensures in
    let o = of_given a.n a.x a.y a.ring.now c.with_ring.ensures p c.in_ok-points.ensures.passed in
    told_contact a.n a.x a.y a.ring.now p o six c.is_counter_clockwise.ensures c.if-not-is_counter_clockwise.false c.check_contact.ensures
