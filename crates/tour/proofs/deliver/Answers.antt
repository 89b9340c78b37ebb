-- `deliver` meets its contract: the answer is the machine's, and what is left can be told.
use Rattle.std.proofs.Common.{◌≡◌, refl, sym, ap, subst, ◌∙◌, length, get_or, take, arith, length-take-le}
use Rattle.algebra.specs.Ranges.{up_from}
use Rattle.geometry.specs.Spots.{spots}
use Rattle.job.specs.Buffers.{Put}
use Rattle.job.proofs.Feeds.{ring_drawn}
use Rattle.two_opt.specs.Entry.{answer_of}
use Rattle.intersection_set.specs.Pool.{tangle_at}
use Rattle.tour.specs.Printed.{told}
use Rattle.tour.proofs.Delivered.{delivered_ring}
use Rattle.tour.proofs.Tangles.{stopped_tallied, told_counts}
use Rattle.tour.proofs.deliver.Goals as goal

pub tell-requires-clause-drawn : goal.tell-requires-clause-drawn
tell-requires-clause-drawn c =
    let a = c.args in
    let p = a.points in
    let r = c.two_opt_moves-done in
    λ d e.
    ring_drawn p.n p.x.now p.y.now _ p.lent
    (delivered_ring p.n (spots p) _ (up_from 0 p.n) a.picks.now
    (sym r.ensures.entry.answers ∙ ap (λ t. answer_of t (take p.n r.new.work.ring.now)) e))

pub tell-requires-clause-tallied : goal.tell-requires-clause-tallied
tell-requires-clause-tallied c =
    let a = c.args in
    let p = a.points in
    let r = c.two_opt_moves-done in
    λ moves left e.
    stopped_tallied p.n (spots p) _ (up_from 0 p.n) a.picks.now
    (sym r.ensures.entry.answers ∙ ap (λ t. answer_of t (take p.n r.new.work.ring.now)) e)
    r.new.work.tangles.now c.requires.0 (omega (arith, ap (λ l. get_or l 9 0) r.ensures.same.sizes))

pub returns-clause-put : goal.returns-clause-put
returns-clause-put c =
    let a = c.args in
    let p = a.points in
    let r = c.two_opt_moves-done in
    let ring = r.new.work.ring.now in
    let tangles = r.new.work.tangles.now in
    let long : length (take p.n ring) ≡ p.n = length-take-le p.n ring (omega (arith, c.requires.0, ap (λ l. get_or l 0 0) r.ensures.same.sizes)) in
    let e = ap (λ m. told (spots p) (λ e. tangle_at m e tangles) (answer_of r.result (take p.n ring))) long
    ∙ told_counts r.ensures.entry p.lent c.requires.0 (record { ring = refl; records = refl; tree = omega arith }) in
    subst (λ t. Put a.out.now 0 t c.tell.result c.tell.new.out) e c.tell.ensures.put
