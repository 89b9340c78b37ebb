-- `contacts` meets its contract: a check's refusal, or what was asked past the checks.
use Rattle.std.specs.Prelude.{◌≡◌, ◌++◌, drop, length, take}
use Rattle.std.proofs.Common.{sym, ◌∙◌, arith}
use Rattle.std.proofs.Math.Seq.{length-take-le}
use mathlib.Core.Path.{subst⁻¹}
use Rattle.std.proofs.lemmas.Result.{err_from_is_err_and}
use Rattle.geometry.specs.Lent.{points}
use Rattle.geometry.specs.Spots.{spots}
use Rattle.polygon.specs.Ring.{IsRing}
use Rattle.machine.specs.Board.{Board}
use Rattle.box_tree.specs.Tree.{ring_tree, tree_size}
use Rattle.host.specs.Query.{meeting, tests_at}
use Rattle.host.proofs.Asking.{number_is, told_refused, tree_untouched, found_untouched, ok, on_ring, tree_long, found_long, told_found, tree_left, found_left}
use Rattle.host.proofs.contacts.contacts.Goals as goal

pub returns-in_err-points-clause-answer : goal.returns-in_err-points-clause-answer
returns-in_err-points-clause-answer c =
    let a = c.args in
    let e = number_is a.n a.x.now a.y.now a.ring.now a.tree.now a.position a.found.now c.in_err-points.ensures.number c.is_short-short.ensures in
    let p = err_from_is_err_and c.from_residual.result c.from_residual.ensures.1 in
    rw (p.1, p.2) (told_refused a.n a.x.now a.y.now a.ring.now a.tree.now a.position a.found.now _ e)

pub returns-in_err-points-clause-tree : goal.returns-in_err-points-clause-tree
returns-in_err-points-clause-tree c =
    let a = c.args in
    let e = number_is a.n a.x.now a.y.now a.ring.now a.tree.now a.position a.found.now c.in_err-points.ensures.number c.is_short-short.ensures in
    tree_untouched a.n a.x.now a.y.now a.ring.now a.tree.now a.position a.found.now _ e

pub returns-in_err-points-clause-found : goal.returns-in_err-points-clause-found
returns-in_err-points-clause-found c =
    let a = c.args in
    let e = number_is a.n a.x.now a.y.now a.ring.now a.tree.now a.position a.found.now c.in_err-points.ensures.number c.is_short-short.ensures in
    found_untouched a.n a.x.now a.y.now a.ring.now a.tree.now a.position a.found.now _ e

pub contacts_at-requires : goal.contacts_at-requires
contacts_at-requires c =
    let a = c.args in
    let e = number_is a.n a.x.now a.y.now a.ring.now a.tree.now a.position a.found.now c.in_ok-points.ensures.number c.is_short-short.ensures in
    let o = c.in_ok-points.ensures.passed in
    let h = ok a.n a.x.now a.y.now a.ring.now a.tree.now a.position a.found.now e in
    let long = tree_long a.n a.x.now a.y.now a.ring.now a.tree.now a.position a.found.now e in
    let size = c.tree_size.ensures in (
      subst⁻¹ (λ m. IsRing m (take a.n a.ring.now)) o.0 h.ring,
      subst⁻¹ (λ (X : Type 0). X) (λ t. Board (o.0 t) (points (o.1 t).now (o.2 t).now)) h.board,
      length-take-le c.tree_size.result a.tree.now (omega (arith, size, long)) ∙ size ∙ (λ t. tree_size (sym o.0 t)),
      omega (arith, o.0, on_ring a.n a.x.now a.y.now a.ring.now a.tree.now a.position a.found.now e),
      omega (arith, o.0, found_long a.n a.x.now a.y.now a.ring.now a.tree.now a.position a.found.now e),
    )

pub returns-clause-answer : goal.returns-clause-answer
returns-clause-answer c =
    let a = c.args in
    let e = number_is a.n a.x.now a.y.now a.ring.now a.tree.now a.position a.found.now c.in_ok-points.ensures.number c.is_short-short.ensures in
    let o = c.in_ok-points.ensures.passed in
    let d = c.contacts_at.ensures in
    told_found a.n a.x.now a.y.now a.ring.now a.tree.now a.position a.found.now e c.contacts_at.result
    (d.count ∙ (λ t. length (meeting (o.0 t) (points (o.1 t).now (o.2 t).now) (take a.n a.ring.now) a.position)))
    (d.tested ∙ (λ t. tests_at (o.0 t) (points (o.1 t).now (o.2 t).now) (take a.n a.ring.now) a.position))

pub returns-clause-tree : goal.returns-clause-tree
returns-clause-tree c =
    let a = c.args in
    let e = number_is a.n a.x.now a.y.now a.ring.now a.tree.now a.position a.found.now c.in_ok-points.ensures.number c.is_short-short.ensures in
    let o = c.in_ok-points.ensures.passed in
    let built = c.contacts_at.ensures.tree ∙ (λ t. ring_tree (o.0 t) (points (o.1 t).now (o.2 t).now) (take a.n a.ring.now)) in
    tree_left a.n a.x.now a.y.now a.ring.now a.tree.now a.position a.found.now e (λ t. built t ++ drop (c.tree_size.ensures t) a.tree.now)

pub returns-clause-found : goal.returns-clause-found
returns-clause-found c =
    let a = c.args in
    let e = number_is a.n a.x.now a.y.now a.ring.now a.tree.now a.position a.found.now c.in_ok-points.ensures.number c.is_short-short.ensures in
    let o = c.in_ok-points.ensures.passed in
    let l : meeting c.in_ok-points.points.n (spots c.in_ok-points.points) (take a.n a.ring.now) a.position ≡ meeting a.n (points a.x.now a.y.now) (take a.n a.ring.now) a.position = λ t. meeting (o.0 t) (points (o.1 t).now (o.2 t).now) (take a.n a.ring.now) a.position in
    found_left a.n a.x.now a.y.now a.ring.now a.tree.now a.position a.found.now e (c.contacts_at.ensures.found ∙ (λ t. l t ++ drop (length (l t)) a.found.now))
