-- The edges behind a position, tested one after the other: each test is that of the definition.
use Rattle.std.specs.Prelude.{◌≡◌, Bool, true, false, cond, List, ℕ, suc, ◌+◌, ◌-◌, ◌≤◌, ◌<◌}
use Rattle.std.proofs.Common.{sym, ◌∙◌, ap, subst, arith}
use Rattle.std.proofs.Math.Option.{Option, none, some}
use Rattle.algebra.specs.Cases.{both}
use Rattle.algebra.specs.Ranges.{least_from}
use Rattle.geometry.specs.Plane.{Point}
use Rattle.index_edge.specs.Edge.{Edge, edge}
use Rattle.index_edge.proofs.Edges.{eq_edge_false}
use Rattle.polygon.specs.Ring.{IsRing, next, at}
use Rattle.polygon.specs.Edges.{edge_at}
use Rattle.polygon.proofs.Positions.{next_cases}
use Rattle.polygon.proofs.RingEdges.{edges_differ}
use Rattle.intersection_set.specs.Within.{Proper}
use Rattle.machine.specs.Board.{Distinct}
use Rattle.sweeps.specs.Query.{met}
use Rattle.sweeps.specs.Sight.{Among, Sees}
use Rattle.sweeps.specs.declared.segment.Seen.{Seen}
use Rattle.sweeps.proofs.Ends.{edge_is, proper_at, meet_comm}
use Rattle.validate.specs.Drawn.{meet_at, first_behind, contact_from, meeting_or}

-- ---- those before position j
-- None of them that is behind i meets the edge there; and `from` is seen where the edge at j starts.
pub record Tested (n : ℕ) (pt : ℕ → Point) (r : List ℕ) (i j : ℕ) (from : Seen) : Type 0 where
  pub rest : first_behind n pt r i ≡ least_from j (n - j) (meet_at n pt r i)
  pub sees : Sees pt (edge_at n r i) (at r (next n (j - 1))) from

module _ {n : ℕ} {pt : ℕ → Point} {r : List ℕ} {i j : ℕ} {from : Seen} (t : Tested n pt r i j from) where
  -- the edge from there to the point behind it is the one at j
  pub there : i < j → j < n → {w : ℕ} → w ≡ at r (next n j) → edge from.id.0 w ≡ edge_at n r j
  there ij lj ew =
      let here : next n (j - 1) ≡ j = both (next_cases n (j - 1)) (λ h. absurd (omega (arith, h.0, ij, lj))) (λ h. omega (arith, h.1, ij)) in
      edge_is n r j (t.sees.number ∙ ap (at r) here) ew

  step : j < n → least_from j (n - j) (meet_at n pt r i) ≡ cond (meet_at n pt r i j) (some j) (least_from (suc j) (n - suc j) (meet_at n pt r i))
  step lj = let e : n - j ≡ suc (n - suc j) = omega (arith, lj) in ap (λ k. least_from j k (meet_at n pt r i)) e

  pub tested_found : j < n → {m : Bool} → m ≡ meet_at n pt r i j → m ≡ true → some j ≡ first_behind n pt r i
  tested_found lj e h = sym (t.rest ∙ step lj ∙ ap (λ (b : Bool). cond b (some j) (least_from (suc j) (n - suc j) (meet_at n pt r i))) (sym e ∙ h))

  pub tested_next : j < n → {m : Bool} {to : Seen} → m ≡ meet_at n pt r i j → m ≡ false → Sees pt (edge_at n r i) (at r (next n j)) to → Tested n pt r i (j + 1) to
  tested_next lj {to = to} e h s =
      let behind : j + 1 ≡ suc j = omega arith in
      record {
        rest =
            t.rest ∙ step lj ∙ ap (λ (b : Bool). cond b (some j) (least_from (suc j) (n - suc j) (meet_at n pt r i))) (sym e ∙ h)
            ∙ ap (λ k. least_from k (n - k) (meet_at n pt r i)) (sym behind);
        sees = subst (λ k. Sees pt (edge_at n r i) (at r (next n k)) to) (omega arith) s;
      }

  pub tested_all : n ≤ j → none ≡ first_behind n pt r i
  tested_all h = let e : n - j ≡ 0 = omega (arith, h) in sym (t.rest ∙ ap (λ k. least_from j k (meet_at n pt r i)) e)

-- what is seen from an edge, by its position
pub seen_as : {pt pt' : ℕ → Point} {e e' : Edge} {v v' : ℕ} {s : Seen} → pt ≡ pt' → e ≡ e' → v ≡ v' → Sees pt e v s → Sees pt' e' v' s
seen_as {s = s} ep ee ev h = subst (λ (X : Type 0). X) (λ t. Sees (ep t) (ee t) (ev t) s) h

pub tested_none : {n : ℕ} {pt : ℕ → Point} {r : List ℕ} {i : ℕ} {from : Seen} → i < n → Sees pt (edge_at n r i) (at r (next n i)) from → Tested n pt r i (i + 1) from
tested_none {n} {pt} {r} {i} {from} li s =
    let behind : i + 1 ≡ suc i = omega arith in
    record {
      rest = ap (λ k. least_from k (n - k) (meet_at n pt r i)) (sym behind);
      sees = subst (λ k. Sees pt (edge_at n r i) (at r (next n k)) from) (omega arith) s;
    }

-- ---- the positions in turn
pub contact_next : (n : ℕ) (pt : ℕ → Point) (r : List ℕ) (i : ℕ) → i < n → none ≡ first_behind n pt r i → contact_from n pt r i (n - i) ≡ contact_from n pt r (i + 1) (n - (i + 1))
contact_next n pt r i li e =
    let here : n - i ≡ suc (n - suc i) = omega (arith, li) in
    let behind : suc i ≡ i + 1 = omega arith in
    ap (contact_from n pt r i) here ∙ ap (λ (o : Option ℕ). meeting_or i o (contact_from n pt r (suc i) (n - suc i))) (sym e) ∙ ap (λ k. contact_from n pt r k (n - k)) behind
