-- Contact passes a ring exactly where a fresh search of it finds nothing: both ask whether some two of its edges meet, contact by their positions, the search
-- by their numbers.
use mathlib.Core.Path.{◌≡◌, refl, sym, ◌∙◌, ap}
use mathlib.Core.Bool.{true, not}
use mathlib.Core.List.{List, []}
use mathlib.Core.Logic.{◌≢◌, ◌↔◌}
use Prim.Native.Nat.{ℕ, ◌<◌}
use native.Mathlib.Omega.{arith}
use Rattle.algebra.specs.Cases.{both, true_or_false, never}
use Rattle.geometry.specs.Plane.{Point}
use Rattle.geometry.proofs.Meeting.{meets_decides}
use Rattle.index_edge.specs.Edge.{Edge, eq_edge, lt_edge}
use Rattle.index_edge.proofs.Edges.{eq_edge_false, eq_edge_of, lt_edge_diff, lt_edge_other}
use Rattle.polygon.specs.Ring.{IsRing}
use Rattle.polygon.specs.Edges.{edge_at}
use Rattle.polygon.proofs.RingEdges.{edges_differ, edge_member}
use Rattle.intersection_set.specs.Store.{counted}
use Rattle.machine.specs.Board.{meet_edges, Board}
use Rattle.machine.specs.Machine.{fresh}
use Rattle.machine.specs.Demand3.{Pair, Search}
use Rattle.machine.proofs.Demand3Holds.{fresh_search}
use Rattle.machine.proofs.EdgesMeet.{meet_edges_is}
use Rattle.machine.proofs.GoodPlan.{ring_edge_apart}
use Rattle.machine.proofs.Moves.{none_counted}
use Rattle.validate.specs.Drawn.{passed, meet_at, contact}
use Rattle.validate.specs.Meetings.{SomeMeet}
use Rattle.validate.proofs.Deciding.{meet_at_is, meet_at_swap, contact_decides}

module _ (n : ℕ) (pt : ℕ → Point) (r : List ℕ) (board : Board n pt) (ring : IsRing n r) where
  search : Search n pt r (fresh n pt r)
  search = fresh_search n pt board r ring

  apart : (i : ℕ) → i < n → pt (edge_at n r i).lo ≢ pt (edge_at n r i).hi
  apart i l = ring_edge_apart n pt board r ring (edge_at n r i) (edge_member n r (edge_at n r i) (i, l, refl))

  -- a pair that the search finds
  some_meet : (e f : Edge) → Pair n pt r e f → SomeMeet n pt r
  some_meet e f p =
      let (i, li, ei) = p.first in
      let (j, lj, fj) = p.second in
      let ne = ring_edge_apart n pt board r ring e (edge_member n r e p.first) in
      let nf = ring_edge_apart n pt board r ring f (edge_member n r f p.second) in
      let met : meet_edges pt e f ≡ true = meet_edges_is pt e f ∙ (meets_decides (pt e.lo) (pt e.hi) (pt f.lo) (pt f.hi) ne nf).1 p.meet in
      record {
        i = i;
        j = j;
        first_in = li;
        second_in = lj;
        differ = λ ij. never (eq_edge e f) (eq_edge_of e f (sym ei ∙ ap (edge_at n r) ij ∙ fj)) (lt_edge_diff e f p.in_order);
        related = (meet_at_is n pt r board.three board.distinct ring i j li lj).0 ((λ k. meet_edges pt (ei k) (fj k)) ∙ met);
      }

  pair_at : (i j : ℕ) → i < n → j < n → lt_edge (edge_at n r i) (edge_at n r j) ≡ true → meet_at n pt r i j ≡ true → Pair n pt r (edge_at n r i) (edge_at n r j)
  pair_at i j li lj lt t =
      let e = edge_at n r i in
      let f = edge_at n r j in
      record {
        first = (i, li, refl);
        second = (j, lj, refl);
        in_order = lt;
        meet = (meets_decides (pt e.lo) (pt e.hi) (pt f.lo) (pt f.hi) (apart i li) (apart j lj)).0 (sym (meet_edges_is pt e f) ∙ t);
      }

  none_pairs : fresh n pt r ≡ [] → (e f : Edge) → ¬ (Pair n pt r e f)
  none_pairs none e f p = omega (arith, search.each e f p, ap (counted e f) none)

  none_meet : fresh n pt r ≡ [] → ¬ (SomeMeet n pt r)
  none_meet none m =
      let t = (meet_at_is n pt r board.three board.distinct ring m.i m.j m.first_in m.second_in).1 m.related in
      let e = edge_at n r m.i in
      let f = edge_at n r m.j in
      both (true_or_false (lt_edge e f))
      (λ lt. none_pairs none e f (pair_at m.i m.j m.first_in m.second_in lt t))
      (λ lt. let gt : lt_edge f e ≡ true = lt_edge_other e f (eq_edge_false e f (λ z. m.differ (edges_differ n r ring board.three m.i m.j m.first_in m.second_in z))) ∙ ap not lt in
      none_pairs none f e (pair_at m.j m.i m.second_in m.first_in gt (sym (meet_at_swap n pt r board.three board.distinct ring m.i m.j m.first_in m.second_in) ∙ t)))

  pub contact_fresh : (contact n pt r ≡ passed) ↔ (fresh n pt r ≡ [])
  contact_fresh =
      let d = contact_decides n pt r board.three board.distinct ring in
      (λ h. none_counted (fresh n pt r) (λ e f. search.only e f (λ p. d.0 h (some_meet e f p))), λ none. d.1 (none_meet none))
