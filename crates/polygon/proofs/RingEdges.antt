-- Rings and their edges: the point at a position, membership, and that edges at different positions differ.
use mathlib.Core.Path.{◌≡◌, refl, sym, ◌∙◌, ap}
use mathlib.Core.Bool.{true, false}
use mathlib.Core.List.{List, map}
use mathlib.Core.Logic.{◌⊎◌, ◌≢◌}
use Prim.Native.Nat.{ℕ, zero, suc, ◌+◌, ◌≤◌, ◌<◌}
use native.Mathlib.Omega.{arith}
use lib.ListN.{length, length-map}
use Rattle.index_edge.specs.Edge.{Edge, edge, eq_edge, edge_in}
use Rattle.algebra.specs.Ranges.{up_from, up_from_length, table_at}
use Rattle.polygon.specs.Ring.{next, dist, at, moved, flip, reversed, slide, joined, IsRing}
use Rattle.polygon.specs.Edges.{edge_at, edges, IsEdge}
use Rattle.algebra.specs.Cases.{both, eq_cases, never, or_cases, or_right}
use Rattle.index_edge.proofs.Edges.{edge_sym, eq_edge_true}
use Rattle.polygon.proofs.Positions.{next_lt, flip_lt, flip_inj, dist_zero, slide_lt, slide_inj}

-- ---- a moved ring
module _ (n : ℕ) (f : ℕ → ℕ) (r : List ℕ) where
  pub moved_at : (i : ℕ) → i < n → at (moved n f r) i ≡ at r (f i)
  moved_at i l = table_at (λ j. at r (f j)) 0 0 n i l ∙ ap (λ j. at r (f j)) (omega arith)

  pub moved_length : length (moved n f r) ≡ n
  moved_length = length-map (up_from 0 n) (λ j. at r (f j)) ∙ up_from_length 0 n

  pub moved_ring : IsRing n r → ((i : ℕ) → i < n → f i < n) → ((i j : ℕ) → i < n → j < n → f i ≡ f j → i ≡ j) → IsRing n (moved n f r)
  moved_ring ring fl fi = grind (arith, moved_length, moved_at)

pub reversed_ring : (n : ℕ) (r : List ℕ) (p q : ℕ) → p < n → q < n → IsRing n r → IsRing n (reversed n r p q)
reversed_ring n r p q lp lq ring = moved_ring n (flip n p q) r ring (flip_lt n p q lp lq) (flip_inj n p q lp lq)

pub joined_ring : (n : ℕ) (r : List ℕ) (e k : ℕ) → e < n → k < n → k ≢ e → IsRing n r → IsRing n (joined n r e k)
joined_ring n r e k le lk ke ring = moved_ring n (slide n e k) r ring (slide_lt n e k le lk) (slide_inj n e k le lk (both (eq_cases (dist n e k) 0) (λ h. absurd (ke (dist_zero n e le k lk h.0))) (λ h. omega arith)))

-- the edge at i of a moved ring lies between the points that were at x and y
module _ (n : ℕ) (f : ℕ → ℕ) (r : List ℕ) (i : ℕ) (l : i < n) (x y : ℕ) where
  pub moved_edge : f i ≡ x → f (next n i) ≡ y → edge_at n (moved n f r) i ≡ edge (at r x) (at r y)
  moved_edge p q = grind (arith, moved_at, next_lt)

  pub moved_edge_back : f i ≡ y → f (next n i) ≡ x → edge_at n (moved n f r) i ≡ edge (at r x) (at r y)
  moved_edge_back p q = grind (arith, moved_at, next_lt, edge_sym)

-- e is in a table
pub in_table : (e : Edge) (g : ℕ → Edge) (s n : ℕ) → edge_in e (map g (up_from s n)) ≡ true → (i : ℕ) × (i < n) × (g (s + i) ≡ e)
in_table e g s zero t = never false t refl
in_table e g s (suc n) t =
    both (or_cases (eq_edge e (g s)) (edge_in e (map g (up_from (suc s) n))) t)
    (λ h. (0, omega arith, ap g (omega arith) ∙ sym (eq_edge_true e (g s) h)))
    (λ h. let (i, l, p) = in_table e g (suc s) n h in (suc i, omega arith, ap g (omega arith) ∙ p))

pub to_table : (e : Edge) (g : ℕ → Edge) (s n i : ℕ) → i < n → g (s + i) ≡ e → edge_in e (map g (up_from s n)) ≡ true
to_table e g s zero i l p = absurd (omega arith)
to_table e g s (suc n) zero l p = grind arith
to_table e g s (suc n) (suc i) l p = or_right (eq_edge e (g s)) _ (to_table e g (suc s) n i (omega arith) (ap g (omega arith) ∙ p))

pub member_edge : (n : ℕ) (r : List ℕ) (e : Edge) → edge_in e (edges n r) ≡ true → IsEdge n r e
member_edge n r e t = let (i, l, p) = in_table e (edge_at n r) 0 n t in (i, l, ap (edge_at n r) (omega arith) ∙ p)

pub edge_member : (n : ℕ) (r : List ℕ) (e : Edge) → IsEdge n r e → edge_in e (edges n r) ≡ true
edge_member n r e (i, l, p) = to_table e (edge_at n r) 0 n i l (ap (edge_at n r) (omega arith) ∙ p)

-- ---- edges at different positions differ
pub next_next : (n i j : ℕ) → 3 ≤ n → i < n → i ≡ next n j → j ≡ next n i → ⊥
next_next n i j three l p q = grind arith

module _ (n : ℕ) (r : List ℕ) (ring : IsRing n r) where
  -- the two ends of an edge, by their positions
  pub ends : (x y j : ℕ) → x < n → y < n → j < n → edge (at r x) (at r y) ≡ edge_at n r j → ((x ≡ j) × (y ≡ next n j)) ⊎ ((x ≡ next n j) × (y ≡ j))
  ends x y j lx ly lj e = grind arith

  pub edges_differ : 3 ≤ n → (i j : ℕ) → i < n → j < n → edge_at n r i ≡ edge_at n r j → i ≡ j
  edges_differ three i j li lj e = grind arith
