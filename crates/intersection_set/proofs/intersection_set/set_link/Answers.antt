-- `set_link` meets its contract: one word is stored, with one link anew.
use mathlib.Core.Path.{◌≡◌, ap, ◌∙◌}
use lib.ListN.{get_or}
use Rattle.index_edge.specs.Edge.{eq_edge}
use native.Mathlib.Omega.{arith}
use Rattle.index_edge.specs.Number.{edge_of}
use Rattle.intersection_set.specs.Pool.{edges_of, end0}
use Rattle.intersection_set.specs.Words.{with_link}
use Rattle.intersection_set.specs.Stored.{stored, goes_back}
use Rattle.intersection_set.proofs.Words.{link_set}
use Rattle.intersection_set.proofs.intersection_set.set_link.Goals as goal

pub returns : goal.returns
returns c =
    let a = c.args in
    let slot = rw c.in-Some.is at c.requires.1 in
    let here : c.eq-first.result ≡ eq_edge (edge_of a.e) (end0 (edges_of a.ends.now) c.in-Some.s.0) = c.eq-first.ensures ∙ ap (eq_edge (edge_of a.e)) c.edges_at.ensures.0 in
    let q : c.with_link.result ≡ with_link (goes_back a.link) c.eq-first.result (get_or a.links.now c.in-Some.s.0 0) (stored a.v) = cc in
    rw c.in-Some.is
    (link_set (edges_of a.ends.now) a.links.now c.in-Some.s.0 (edge_of a.e) (stored a.v) (goes_back a.link) (λ q. omega (arith, slot)) (omega arith) here q)
