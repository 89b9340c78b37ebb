-- Past the checks the loop can be told.
use Rattle.std.proofs.Common.{◌∙◌}
use Rattle.std.proofs.lemmas.Result.{err_from_is_err_and}
use Rattle.checks.proofs.Checking.{four_given, of_given}
use Rattle.host.proofs.Feeding.{told_refused, told_feed, drawn}
use Rattle.host.proofs.loop_feed.feed.Goals as goal

pub returns-in_err-first_four : goal.returns-in_err-first_four
returns-in_err-first_four c =
    let a = c.args in
    let p = err_from_is_err_and c.from_residual.result c.from_residual.ensures.1 in
    rw (p.1, p.2) (told_refused a.n a.x.now a.y.now a.ring.now _ (c.in_err-first_four.ensures.number ∙ four_given a.n a.x a.y a.ring.now c.with_ring.ensures))

pub invariant_of-feed : goal.invariant_of-feed
invariant_of-feed c =
    let a = c.args in
    let e = c.in_ok-first_four.ensures.number ∙ four_given a.n a.x a.y a.ring.now c.with_ring.ensures in
    let o = of_given a.n a.x a.y a.ring.now c.with_ring.ensures c.in_ok-first_four.field-0 c.in_ok-first_four.ensures.passed in
    record { drawn = drawn a.n a.x.now a.y.now a.ring.now e (rw (o.0, o.1, o.2) at c.in_ok-first_four.field-0.lent) }

pub returns : goal.returns
returns c =
    let a = c.args in
    let e = c.in_ok-first_four.ensures.number ∙ four_given a.n a.x a.y a.ring.now c.with_ring.ensures in
    told_feed a.n a.x.now a.y.now a.ring.now e c.feed.ensures
