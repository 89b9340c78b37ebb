-- `check_in_order` meets its contract: past the first three checks it comes to the same exits as the definition.
use mathlib.Core.Path.{◌≡◌, sym, ◌∙◌, subst}
use Prim.Native.Nat.{◌<◌}
use borrow.Author.Rules.{rules}
use Rattle.algebra.specs.Ranges.{up_from}
use Rattle.geometry.specs.Lent.{points}
use Rattle.refusal.specs.Number.{number_of, refused}
use Rattle.refusal.proofs.Numbers.{some_number}
use Rattle.checks.proofs.Checking.{in_order_once, refused_late, refused_line_lem, same_late, same_line}
use Rattle.checks.proofs.accept.Given.check_in_order.Goals as goal

pub returns-in_err-late-clause-number : goal.returns-in_err-late-clause-number
returns-in_err-late-clause-number c =
    let s = c.args.self in
    let told : refused c.from_residual-in_err-late.result ≡ number_of c.in_err-late.field-0.0 = search rules in
    let late_is = c.in_err-late.ensures ∙ same_late c.in_ok-points.points c.in_ok-points.ensures.passed in
    told ∙ late_is ∙ sym (refused_late s.n (points s.x.now s.y.now) s.short s.many (up_from 0 s.n) (sym (c.in_ok-points.ensures.number)) (in_order_once s.n) (subst (λ k. 0 < k) late_is (some_number c.in_err-late.field-0.0)))

pub returns-then-colinear_in_order-clause-number : goal.returns-then-colinear_in_order-clause-number
returns-then-colinear_in_order-clause-number c =
    let s = c.args.self in
    let o = c.in_ok-points.ensures.passed in
    sym (refused_line_lem s.n (points s.x.now s.y.now) s.short s.many (up_from 0 s.n) (sym (c.in_ok-points.ensures.number)) (in_order_once s.n) (sym (c.in_ok-late.ensures ∙ same_late c.in_ok-points.points o))
    (sym c.if-colinear_in_order.true ∙ c.colinear_in_order.ensures ∙ same_line c.in_ok-points.points o (up_from 0)))

pub returns-clause-number : goal.returns-clause-number
returns-clause-number c =
    let s = c.args.self in
    let o = c.in_ok-points.ensures.passed in
    sym (refused_line_lem s.n (points s.x.now s.y.now) s.short s.many (up_from 0 s.n) (sym (c.in_ok-points.ensures.number)) (in_order_once s.n) (sym (c.in_ok-late.ensures ∙ same_late c.in_ok-points.points o))
    (sym c.if-colinear_in_order.false ∙ c.colinear_in_order.ensures ∙ same_line c.in_ok-points.points o (up_from 0)))
