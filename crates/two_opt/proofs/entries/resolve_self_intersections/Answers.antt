-- The entry from a lent ring.
use Rattle.std.proofs.Common.{rules}
use mathlib.Core.Path.{◌≡◌, refl}
use native.Mathlib.Omega.{arith}
use lib.ListN.{take}
use Rattle.two_opt.specs.Entry.{answer_of, refusal_of}
use Rattle.two_opt.specs.Lent.{loan_of}
use Rattle.two_opt.proofs.Answering.{entry_refused, passing, ready, entry_ran}
use Rattle.two_opt.proofs.entries.resolve_self_intersections.Goals as goal

pub returns-in_err-points-clause-entry : goal.returns-in_err-points-clause-entry
returns-in_err-points-clause-entry c =
    let a = c.args in
    let g = c.given.ensures.points in
    let ring = take a.n a.work.now.ring.now in
    let told : answer_of c.from_residual.result ring ≡ refusal_of c.in_err-points.field-0.0 ring = search rules in
    rw told (entry_refused a.n a.x.now a.y.now (take a.n a.work.now.ring.now) a.picks.now (loan_of a.work.now) c.in_err-points.field-0.0 c.given.ensures.short c.given.ensures.many (rw (c.ring.ensures, g.0, g.1, g.2) at c.in_err-points.ensures.number))

pub start_from_ring-requires : goal.start_from_ring-requires
start_from_ring-requires c =
    let a = c.args in
    let g = c.given.ensures.points in
    let p = passing a.n a.x.now a.y.now (take a.n a.work.now.ring.now) a.picks.now (loan_of a.work.now) c.given.ensures.short c.given.ensures.many (rw (c.ring.ensures, g.0, g.1, g.2) at c.in_ok-points.ensures.number) refl in
    (omega (arith, p.accepted.few), p.enough, p.accepted.ring)

pub resolve-requires : goal.resolve-requires
resolve-requires c =
    let a = c.args in
    let g = c.given.ensures.points in
    let p = passing a.n a.x.now a.y.now (take a.n a.work.now.ring.now) a.picks.now (loan_of a.work.now) c.given.ensures.short c.given.ensures.many (rw (c.ring.ensures, g.0, g.1, g.2) at c.in_ok-points.ensures.number) refl in
    ready c.in_ok-points.points (rw (g.0, g.1, g.2) at c.in_ok-points.ensures.passed) (take a.n a.work.now.ring.now) a.picks.now c.start_from_ring.ensures.started p.plain

pub returns-clause-entry : goal.returns-clause-entry
returns-clause-entry c =
    let a = c.args in
    let g = c.given.ensures.points in
    let p = passing a.n a.x.now a.y.now (take a.n a.work.now.ring.now) a.picks.now (loan_of a.work.now) c.given.ensures.short c.given.ensures.many (rw (c.ring.ensures, g.0, g.1, g.2) at c.in_ok-points.ensures.number) refl in
    entry_ran c.in_ok-points.points (rw (g.0, g.1, g.2) at c.in_ok-points.ensures.passed) (take a.n a.work.now.ring.now) a.picks.now c.start_from_ring.ensures.started c.answer_of.result p.ok c.resolve.ensures.ran c.answer_of.ensures
