-- The whole loop reversed is a ring with the same edges.
use mathlib.Core.Path.{◌≡◌, sym, ◌∙◌, ap}
use mathlib.Core.List.{List}
use Prim.Native.Nat.{ℕ, ◌+◌, ◌-◌, ◌<◌}
use native.Mathlib.Omega.{arith}
use Rattle.index_edge.specs.Edge.{Edge, edge_in}
use Rattle.algebra.specs.Cases.{same_test}
use Rattle.polygon.specs.Ring.{next, prev, at, flip, turned_round, IsRing}
use Rattle.polygon.specs.Edges.{edge_at, edges}
use Rattle.polygon.proofs.Positions.{next_cases, prev_cases, next_lt, prev_lt, next_prev, prev_next, flip_lt}
use Rattle.polygon.proofs.RingEdges.{moved_at, moved_edge_back, reversed_ring, member_edge, edge_member}

module _ (n : ℕ) (some : 0 < n) where
  -- where the reversed loop takes its points from
  abbrev pub whole : ℕ → ℕ
  whole = flip n 0 (n - 1)

  pub whole_lt : (i : ℕ) → i < n → whole i < n
  whole_lt i l = flip_lt n 0 (n - 1) some (omega arith) i l

  pub whole_whole : (i : ℕ) → i < n → whole (whole i) ≡ i
  whole_whole i l = grind arith

  pub whole_sum : (i : ℕ) → i < n → whole i + i ≡ n - 1
  whole_sum i l = grind arith

  -- what was next comes before
  pub whole_next : (i : ℕ) → i < n → whole (next n i) ≡ prev n (whole i)
  whole_next i l = grind (arith, whole_sum, next_lt, next_cases, prev_cases, whole_lt)

  pub whole_prev : (i : ℕ) → i < n → whole (prev n i) ≡ next n (whole i)
  whole_prev i l = grind (arith, whole_sum, prev_lt, prev_cases, next_cases)

  module _ (r : List ℕ) where
    pub back_at : (i : ℕ) → i < n → at (turned_round n r) i ≡ at r (whole i)
    back_at i l = moved_at n whole r i l

    pub back_ring : IsRing n r → IsRing n (turned_round n r)
    back_ring ring = reversed_ring n r 0 (n - 1) some (omega arith) ring

    pub back_edge : (i : ℕ) → i < n → edge_at n (turned_round n r) i ≡ edge_at n r (prev n (whole i))
    back_edge i l = grind (arith, moved_edge_back, whole_next, next_prev, whole_lt)

    -- the same edges
    pub back_edges : (e : Edge) → edge_in e (edges n (turned_round n r)) ≡ edge_in e (edges n r)
    back_edges e =
        same_test (edge_in e (edges n (turned_round n r))) (edge_in e (edges n r))
        (λ t. let (i, l, p) = member_edge n (turned_round n r) e t in edge_member n r e (prev n (whole i), prev_lt n (whole i) (whole_lt i l), sym (back_edge i l) ∙ p))
        (λ t. let (j, l, p) = member_edge n r e t in
        let l' = next_lt n j l in
        edge_member n (turned_round n r) e
        (whole (next n j), whole_lt (next n j) l', back_edge (whole (next n j)) (whole_lt (next n j) l') ∙ ap (λ i. edge_at n r (prev n i)) (whole_whole (next n j) l') ∙ ap (edge_at n r) (prev_next n j l) ∙ p))
