-- The edges after a hoist: the three that are cut go, the three that are laid come, and every other stays.
use mathlib.Core.Path.{◌≡◌, refl, sym, ◌∙◌, ap}
use mathlib.Core.Bool.{true, false, not, ◌&&◌, ◌||◌}
use mathlib.Core.List.{List, [], ◌∷◌}
use mathlib.Core.Logic.{◌⊎◌, inl, inr, ◌≢◌}
use Prim.Native.Nat.{ℕ, suc, ◌≤◌, ◌<◌}
use native.Mathlib.Omega.{arith}
use Rattle.polygon.specs.Change.{hoist, cut, lay, turned}
use Rattle.index_edge.specs.Edge.{Edge, edge, edge_in}
use Rattle.polygon.specs.Ring.{next, prev, dist, at, slide, joined, IsRing}
use Rattle.polygon.specs.Edges.{edge_at, edges}
use Rattle.algebra.specs.Cases.{both, le_cases, eq_cases, never}
use Rattle.polygon.proofs.Positions.{next_lt, prev_lt, next_prev, prev_next, dist_self, dist_lt, dist_inj, dist_suc, dist_wrap, dist_zero, dist_pred, slide_zero, slide_one, slide_in, slide_out}
use Rattle.polygon.proofs.RingEdges.{moved_edge, edges_differ, edge_member}
use Rattle.index_edge.proofs.Edges.{member_here, member_there, member_cases, not_member, not_head, not_tail}
use Rattle.polygon.proofs.EdgesAfter.{EdgesAfter, edges_after}

module _ (n : ℕ) (r : List ℕ) (k p : ℕ) (lk : k < n) (lp : p < n) (kp : k ≢ p) (kp' : k ≢ next n p) where
  abbrev D : ℕ → ℕ
  D = dist n p

  abbrev f : ℕ → ℕ
  f = slide n p k

  abbrev r' : List ℕ
  r' = joined n r p k

  -- counted from p, the point behind it stands at 1 and k at 2 or later
  dist_p : D p ≡ 0
  dist_p = dist_self n p lp

  dist_k_lt : D k < n
  dist_k_lt = dist_lt n p lp k lk

  dist_next_p : D (next n p) ≡ 1
  dist_next_p = grind arith

  dist_k : 1 < D k
  dist_k = grind arith

  -- a place past k stays, whether or not the step behind it comes round to p
  stays : (i : ℕ) → i < n → D k ≤ D i → f (next n i) ≡ next n i
  stays i l h = grind (arith, le_cases, dist_suc, slide_out, dist_k, slide_zero, dist_wrap, dist_lt)

  -- ---- the edges of the new ring, position by position
  hoist_stay : (j : ℕ) → j < n → D k < D j → edge_at n r' j ≡ edge_at n r j
  hoist_stay j l h = grind (arith, moved_edge, slide_out, dist_k, stays)

  hoist_shift : (j : ℕ) → j < n → 0 < D j → suc (D j) < D k → edge_at n r' (next n j) ≡ edge_at n r j
  hoist_shift j l h g = grind (arith, dist_k_lt, next_lt, dist_suc, moved_edge, slide_in, prev_next)

  hoist_at_p : edge_at n r' p ≡ edge (at r p) (at r k)
  hoist_at_p = moved_edge n f r p lp p k (slide_zero n p k p dist_p) (slide_one n p k (next n p) dist_next_p)

  hoist_behind : edge_at n r' (next n p) ≡ edge (at r k) (at r (next n p))
  hoist_behind = grind (arith, next_lt, dist_suc, dist_next_p, dist_k, dist_k_lt, moved_edge, slide_one, slide_in, prev_next)

  hoist_at_k : edge_at n r' k ≡ edge (at r (prev n k)) (at r (next n k))
  hoist_at_k = grind (arith, moved_edge, slide_in, dist_k, stays)

  abbrev cut1 : Edge
  cut1 = edge_at n r (prev n k)

  abbrev cut2 : Edge
  cut2 = edge_at n r k

  abbrev cut3 : Edge
  cut3 = edge_at n r p

  abbrev laid1 : Edge
  laid1 = edge (at r (prev n k)) (at r (next n k))

  abbrev laid2 : Edge
  laid2 = edge (at r p) (at r k)

  abbrev laid3 : Edge
  laid3 = edge (at r k) (at r (next n p))

  dist_prev_k : suc (D (prev n k)) ≡ D k
  dist_prev_k = grind arith

  module _ (ring : IsRing n r) (three : 3 ≤ n) where
    hoist_uncut : (e : Edge) (j : ℕ) → j < n → D j ≢ 0 → D j ≢ D k → suc (D j) ≢ D k → e ≡ edge_at n r j → edge_in e (cut n (hoist k p) r) ≡ false
    hoist_uncut e j l jp jk jk' q =
        not_member e cut1 (cut2 ∷ cut3 ∷ []) (λ z. jk' (ap (λ x. suc (D x)) (edges_differ n r ring three j (prev n k) l (prev_lt n k lk) (sym q ∙ z)) ∙ dist_prev_k))
        (not_member e cut2 (cut3 ∷ []) (λ z. jk (ap D (edges_differ n r ring three j k l lk (sym q ∙ z))))
        (not_member e cut3 [] (λ z. jp (ap D (edges_differ n r ring three j p l lp (sym q ∙ z)) ∙ dist_p)) refl))

    hoist_fore : (i : ℕ) → i < n → (edge_in (edge_at n r' i) (laid1 ∷ laid2 ∷ laid3 ∷ []) ≡ true) ⊎ ((edge_in (edge_at n r' i) (edges n r) ≡ true) × (edge_in (edge_at n r' i) (cut1 ∷ cut2 ∷ cut3 ∷ []) ≡ false))
    hoist_fore i l =
        let e = edge_at n r' i in
        both (eq_cases (D i) 0)
        (λ h. inl (member_there e laid1 (laid2 ∷ laid3 ∷ []) (member_here e laid2 (laid3 ∷ []) (ap (edge_at n r') (dist_zero n p lp i l h.0) ∙ hoist_at_p))))
        (λ h. both (eq_cases (D i) 1)
        (λ g. inl (member_there e laid1 (laid2 ∷ laid3 ∷ []) (member_there e laid2 (laid3 ∷ []) (member_here e laid3 [] (ap (edge_at n r') (dist_inj n p lp i (next n p) l (next_lt n p lp) (g.0 ∙ sym dist_next_p)) ∙ hoist_behind)))))
        (λ g. both (eq_cases (D i) (D k))
        (λ c. inl (member_here e laid1 (laid2 ∷ laid3 ∷ []) (ap (edge_at n r') (dist_inj n p lp i k l lk c.0) ∙ hoist_at_k)))
        (λ c. both (le_cases (D i) (D k))
        (λ d.
        let j = prev n i in
        let lj = prev_lt n i l in
        let dj : suc (D j) ≡ D i = dist_pred n p lp i l (omega arith) in
        let same : e ≡ edge_at n r j = ap (edge_at n r') (sym (next_prev n i l)) ∙ hoist_shift j lj (omega arith) (omega arith) in
        inr (edge_member n r e (j, lj, sym same), hoist_uncut e j lj (omega arith) (omega arith) (omega arith) same))
        (λ d.
        let same = hoist_stay i l d.0 in
        inr (edge_member n r e (i, l, sym same), hoist_uncut e i l (omega arith) (omega arith) (omega arith) same)))))

    hoist_laid : (e : Edge) → edge_in e (laid1 ∷ laid2 ∷ laid3 ∷ []) ≡ true → edge_in e (edges n r') ≡ true
    hoist_laid e h =
        both (member_cases e laid1 (laid2 ∷ laid3 ∷ []) h)
        (λ q. edge_member n r' e (k, lk, hoist_at_k ∙ sym q))
        (λ g. both (member_cases e laid2 (laid3 ∷ []) g)
        (λ q. edge_member n r' e (p, lp, hoist_at_p ∙ sym q))
        (λ c. both (member_cases e laid3 [] c) (λ q. edge_member n r' e (next n p, next_lt n p lp, hoist_behind ∙ sym q)) (λ z. never false z refl)))

    hoist_kept : (i : ℕ) → i < n → edge_in (edge_at n r i) (cut1 ∷ cut2 ∷ cut3 ∷ []) ≡ false → edge_in (edge_at n r i) (edges n r') ≡ true
    hoist_kept i l h =
        let e = edge_at n r i in
        let t = not_tail e cut1 (cut2 ∷ cut3 ∷ []) h in
        let ik' : suc (D i) ≢ D k = λ q. not_head e cut1 (cut2 ∷ cut3 ∷ []) h (ap (edge_at n r) (dist_inj n p lp i (prev n k) l (prev_lt n k lk) (omega (arith, dist_prev_k)))) in
        let ik : D i ≢ D k = λ q. not_head e cut2 (cut3 ∷ []) t (ap (edge_at n r) (dist_inj n p lp i k l lk q)) in
        let ip : D i ≢ 0 = λ q. not_head e cut3 [] (not_tail e cut2 (cut3 ∷ []) t) (ap (edge_at n r) (dist_zero n p lp i l q)) in
        both (le_cases (D i) (D k))
        (λ d. edge_member n r' e (next n i, next_lt n i l, hoist_shift i l (omega arith) (omega arith)))
        (λ d. edge_member n r' e (i, l, hoist_stay i l d.0))

    hoist_after : EdgesAfter n r (turned n (hoist k p) r) (cut n (hoist k p) r) (lay n (hoist k p) r)
    hoist_after = record { fore = hoist_fore; laid = hoist_laid; kept = hoist_kept }

    -- e is an edge after the hoist exactly when it was one that is not cut, or is laid
    pub hoist_edges : (e : Edge) → edge_in e (edges n (turned n (hoist k p) r)) ≡ (edge_in e (edges n r) && not (edge_in e (cut n (hoist k p) r))) || edge_in e (lay n (hoist k p) r)
    hoist_edges = edges_after hoist_after
