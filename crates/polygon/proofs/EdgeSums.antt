-- Sums over the edges of a ring of n positions, and counts as such sums.
use mathlib.Core.Path.{◌≡◌, ap, ◌∙◌}
use mathlib.Core.Bool.{Bool}
use mathlib.Core.List.{List}
use Prim.Native.Nat.{ℕ, ◌+◌}
use native.Mathlib.Omega.{arith}
use Rattle.algebra.specs.Counting.{one, count_p}
use Rattle.algebra.specs.Sums.{sum_same, sum_over, sum_table, count_sum}
use Rattle.index_edge.specs.Edge.{Edge}
use Rattle.polygon.specs.Edges.{edge_at, edges, edge_sum}

pub sum_edges : (f : Edge → ℕ) (n : ℕ) (r : List ℕ) → sum_over f (edges n r) ≡ edge_sum f n r
sum_edges f n r =
    sum_table f (edge_at n r) 0 n ∙ sum_same (λ i. f (edge_at n r (0 + i))) (λ i. f (edge_at n r i)) n (λ i l. ap (λ k. f (edge_at n r k)) (omega arith))

pub count_edges : (p : Edge → Bool) (n : ℕ) (r : List ℕ) → count_p p (edges n r) ≡ edge_sum (λ e. one (p e)) n r
count_edges p n r = count_sum p (edges n r) ∙ sum_edges (λ e. one (p e)) n r
