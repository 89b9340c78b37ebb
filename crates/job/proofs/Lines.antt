-- How long the printed lines are, and the steps by which they are written.
use mathlib.Core.Path.{◌≡◌, refl}
use mathlib.Core.List.{List, ◌++◌}
use Prim.Native.Nat.{ℕ, zero, suc, ◌+◌, ◌*◌, ◌≤◌, ◌<◌}
use native.Mathlib.Omega.{arith}
use native.Mathlib.Numerals.{add-one}
use lib.ListN.{length, length-append}
use Rattle.algebra.specs.Sums.{sum_same}
use Rattle.geometry.specs.Plane.{Point}
use Rattle.index_edge.specs.Edge.{Edge}
use Rattle.polygon.specs.Ring.{at}
use Rattle.polygon.specs.Edges.{edge_at, edge_sum}
use Rattle.job.specs.Text.{summary, point_line, point_lines, loop_lines, left_line, edge_name, edge_line, edge_lines, total_line, stopped_lines, refused_line}
use Rattle.job.specs.Feed.{feed_of}
use Rattle.job.proofs.Decimals.{length_decimal, length_u16, length_integer}

-- ---- a loop
pub length_summary : (n m c f : ℕ) → length (summary n m c f) ≤ 104
unfolding summary
length_summary n m c f = simp length-append (omega (arith, length_decimal n, length_decimal m, length_decimal c, length_decimal f))

pub lines_next : (pt : ℕ → Point) (ring : List ℕ) (k : ℕ) → point_lines pt ring (k + 1) ≡ point_lines pt ring k ++ point_line (pt (at ring k))
unfolding point_lines
lines_next pt ring k = rw add-one

length_line : (p : Point) → length (point_line p) ≤ 44
unfolding point_line
length_line p = simp length-append (omega (arith, length_integer p.x, length_integer p.y))

pub length_lines : (pt : ℕ → Point) (ring : List ℕ) (k : ℕ) → length (point_lines pt ring k) ≤ 44 * k
unfolding point_lines
length_lines pt ring zero = omega arith
length_lines pt ring (suc k) = rw length-append (omega (arith, length_lines pt ring k, length_line (pt (at ring k))))

pub length_loop : (pt : ℕ → Point) (ring : List ℕ) (m c : ℕ) → length (loop_lines pt ring m c) ≤ 104 + 44 * length ring
unfolding loop_lines
length_loop pt ring m c = rw length-append (omega (arith, length_summary (length ring) m c (feed_of pt ring), length_lines pt ring (length ring)))

-- ---- a run that used up its picks
-- numbers of 16 bits
pub length_name : (e : Edge) → e.lo < 65536 → e.hi < 65536 → length (edge_name e) ≤ 16
unfolding edge_name
length_name e l h = simp length-append (omega (arith, length_u16 e.lo l, length_u16 e.hi h))

length_edge : (e : Edge) (c : ℕ) → e.lo < 65536 → e.hi < 65536 → c < 65536 → length (edge_line e c) ≤ 23
unfolding edge_line
length_edge e c l h b = simp length-append (omega (arith, length_name e l h, length_u16 c b))

module _ (count : Edge → ℕ) (ring : List ℕ) (k : ℕ) where
  pub edges_next : {e : Edge} {c : ℕ} → e ≡ edge_at (length ring) ring k → c ≡ count e → edge_lines count ring k ++ edge_line e c ≡ edge_lines count ring (k + 1)
  unfolding edge_lines
  edges_next ee ec = rw (ec, ee, add-one)

  -- and then those of the lines so far
  pub edges_short : {e : Edge} {c : ℕ} → e ≡ edge_at (length ring) ring k → c ≡ count e → e.lo < 65536 → e.hi < 65536 → c < 65536
      → length (edge_lines count ring k) ≤ 23 * k → length (edge_lines count ring (k + 1)) ≤ 23 * (k + 1)
  edges_short {e} {c} ee ec l h b so_far =
      rw (← edges_next ee ec, length-append) (omega (arith, so_far, length_edge e c l h b))

-- what counts them matters on the ring's edges only
module _ (f g : Edge → ℕ) (ring : List ℕ) (same : (i : ℕ) → i < length ring → f (edge_at (length ring) ring i) ≡ g (edge_at (length ring) ring i)) where
  edges_same : (k : ℕ) → k ≤ length ring → edge_lines f ring k ≡ edge_lines g ring k
  unfolding edge_lines
  edges_same zero h = refl
  edges_same (suc k) h = rw (edges_same k (omega arith), same k (omega arith))

  pub stopped_same : (left : ℕ) → stopped_lines f ring left ≡ stopped_lines g ring left
  unfolding stopped_lines
  stopped_same left =
      rw (
        edges_same (length ring) (omega arith),
        sum_same (λ i. f (edge_at (length ring) ring i)) (λ i. g (edge_at (length ring) ring i)) (length ring) same,
      )

pub length_left : (left : ℕ) → length (left_line left) ≤ 36
unfolding left_line
length_left left = simp length-append (omega (arith, length_decimal left))

length_total : (total : ℕ) → length (total_line total) ≤ 27
unfolding total_line
length_total total = simp length-append (omega (arith, length_decimal total))

pub length_stopped : (count : Edge → ℕ) (ring : List ℕ) (left : ℕ) → length (edge_lines count ring (length ring)) ≤ 23 * length ring
    → length (stopped_lines count ring left) ≤ 63 + 23 * length ring
unfolding stopped_lines
length_stopped count ring left h = simp length-append (omega (arith, h, length_left left, length_total (edge_sum count (length ring) ring)))

-- ---- any other refusal
pub length_refused : (k : ℕ) → length (refused_line k) ≤ 29
unfolding refused_line
length_refused k = simp length-append (omega (arith, length_decimal k))
