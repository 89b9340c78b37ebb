-- What a move lays: the laid edges differ from each other, and one that was there before is one of the cut ones.
use mathlib.Core.Path.{◌≡◌, refl, sym, ◌∙◌, ap}
use mathlib.Core.Bool.{true, false}
use mathlib.Core.List.{List, [], ◌∷◌}
use mathlib.Core.Logic.{◌≢◌}
use Prim.Native.Nat.{ℕ, ◌≤◌, ◌<◌}
use native.Mathlib.Omega.{arith}
use Rattle.polygon.specs.Change.{uncross, hoist, cut, lay}
use Rattle.index_edge.specs.Edge.{Edge, edge, edge_in}
use Rattle.polygon.specs.Ring.{next, prev, at, IsRing}
use Rattle.polygon.specs.Edges.{edge_at, edges}
use Rattle.algebra.specs.Cases.{both, true_or_false, never}
use Rattle.polygon.proofs.Positions.{next_cases, prev_cases, next_lt, prev_lt, next_prev, prev_next, next_not}
use Rattle.index_edge.proofs.Edges.{member_here, member_there, member_cases}
use Rattle.polygon.proofs.RingEdges.{ends, member_edge}

pub next_inj : (n i j : ℕ) → i < n → j < n → next n i ≡ next n j → i ≡ j
next_inj n i j li lj e = grind arith

-- ---- edges between positions
module _ (n : ℕ) (r : List ℕ) (ring : IsRing n r) where
  module _ (three : 3 ≤ n) where
    -- ---- uncrossing
    module _ (a b : ℕ) (la : a < n) (lb : b < n) (ab : a ≢ b) where
      pub uncross_lay_differ : edge (at r a) (at r b) ≢ edge (at r (next n a)) (at r (next n b))
      uncross_lay_differ e = grind arith

      -- neither laid edge was there
      pub uncross_lay_new : next n a ≢ b → next n b ≢ a → (e : Edge) → edge_in e (lay n (uncross a b) r) ≡ true → edge_in e (edges n r) ≡ false
      uncross_lay_new nab nba e m =
          let l1 = edge (at r a) (at r b) in
          let l2 = edge (at r (next n a)) (at r (next n b)) in
          both (true_or_false (edge_in e (edges n r)))
          (λ t. let (j, lj, q) = member_edge n r e t in
          both (member_cases e l1 (l2 ∷ []) m)
          (λ h. both (ends n r ring a b j la lb lj (sym h ∙ sym q)) (λ g. absurd (nab (ap (next n) g.0 ∙ sym g.1))) (λ g. absurd (nba (ap (next n) g.1 ∙ sym g.0))))
          (λ h. both (member_cases e l2 [] h)
          (λ h. both (ends n r ring (next n a) (next n b) j (next_lt n a la) (next_lt n b lb) lj (sym h ∙ sym q))
          (λ g. absurd (nab (g.0 ∙ sym (next_inj n b j lb lj g.1))))
          (λ g. absurd (nba (g.1 ∙ sym (next_inj n a j la lj g.0)))))
          (λ z. never false z refl)))
          (λ t. t)

    -- ---- hoisting
    module _ (k p : ℕ) (lk : k < n) (lp : p < n) (kp : k ≢ p) (kp' : k ≢ next n p) where
      pub hoist_lay_12 : edge (at r (prev n k)) (at r (next n k)) ≢ edge (at r p) (at r k)
      hoist_lay_12 e = grind arith

      pub hoist_lay_13 : edge (at r (prev n k)) (at r (next n k)) ≢ edge (at r k) (at r (next n p))
      hoist_lay_13 e = grind arith

      pub hoist_lay_23 : edge (at r p) (at r k) ≢ edge (at r k) (at r (next n p))
      hoist_lay_23 e = grind arith

      -- a laid edge that was there is one of the cut ones
      pub hoist_lay_cut : (e : Edge) → edge_in e (lay n (hoist k p) r) ≡ true → edge_in e (edges n r) ≡ true → edge_in e (cut n (hoist k p) r) ≡ true
      hoist_lay_cut e m t =
          let (j, lj, q) = member_edge n r e t in
          let l1 = edge (at r (prev n k)) (at r (next n k)) in
          let l2 = edge (at r p) (at r k) in
          let l3 = edge (at r k) (at r (next n p)) in
          let c1 = edge_at n r (prev n k) in
          let c2 = edge_at n r k in
          let c3 = edge_at n r p in
          both (member_cases e l1 (l2 ∷ l3 ∷ []) m)
          (λ h. both (ends n r ring (prev n k) (next n k) j (prev_lt n k lk) (next_lt n k lk) lj (sym h ∙ sym q))
          (λ g. absurd (next_not n k (omega arith) lk (g.1 ∙ ap (next n) (sym g.0) ∙ next_prev n k lk)))
          (λ g. member_there e c1 (c2 ∷ c3 ∷ []) (member_there e c2 (c3 ∷ []) (member_here e c3 [] (sym q ∙ ap (edge_at n r) (sym g.1 ∙ around (g.0 ∙ ap (next n) (sym g.1))))))))
          (λ h. both (member_cases e l2 (l3 ∷ []) h)
          (λ h. both (ends n r ring p k j lp lk lj (sym h ∙ sym q))
          (λ g. absurd (kp' (g.1 ∙ ap (next n) (sym g.0))))
          (λ g. member_there e c1 (c2 ∷ c3 ∷ []) (member_here e c2 (c3 ∷ []) (sym q ∙ ap (edge_at n r) (sym g.1)))))
          (λ h. both (member_cases e l3 [] h)
          (λ h. both (ends n r ring k (next n p) j lk (next_lt n p lp) lj (sym h ∙ sym q))
          (λ g. absurd (kp (next_inj n k p lk lp (ap (next n) g.0 ∙ sym g.1))))
          (λ g. member_here e c1 (c2 ∷ c3 ∷ []) (sym q ∙ ap (edge_at n r) (sym (prev_next n j lj) ∙ ap (prev n) (sym g.0)))))
          (λ z. never false z refl)))
        where
          -- then the ring has three points, and the one behind k is p
          around : prev n k ≡ next n (next n k) → next n k ≡ p
          around z =
              both (prev_cases n k lk)
              (λ h. both (next_cases n k)
              (λ g. both (next_cases n (next n k)) (λ c. omega arith) (λ c. both (next_cases n p) (λ d. omega arith) (λ d. omega arith)))
              (λ g. both (next_cases n (next n k)) (λ c. both (next_cases n p) (λ d. omega arith) (λ d. omega arith)) (λ c. both (next_cases n p) (λ d. omega arith) (λ d. omega arith))))
              (λ h. both (next_cases n k)
              (λ g. both (next_cases n (next n k)) (λ c. both (next_cases n p) (λ d. omega arith) (λ d. omega arith)) (λ c. both (next_cases n p) (λ d. omega arith) (λ d. omega arith)))
              (λ g. both (next_cases n (next n k)) (λ c. both (next_cases n p) (λ d. omega arith) (λ d. omega arith)) (λ c. both (next_cases n p) (λ d. omega arith) (λ d. omega arith))))
