-- What a pick does with a record of two ring edges that meet: an uncrossing that fits and whose laid edges do not meet, or a hoist of a kink into an edge that holds it.
use mathlib.Core.Path.{◌≡◌, refl, sym, ◌∙◌, ap}
use mathlib.Core.Bool.{true, false}
use mathlib.Core.List.{List}
use mathlib.Core.Logic.{◌≢◌}
use Prim.Native.Nat.{ℕ, ◌≤◌, ◌<◌}
use native.Mathlib.Omega.{arith}
use Rattle.geometry.specs.Plane.{Point, lt_point}
use Rattle.geometry.specs.Segment.{inside}
use Rattle.index_edge.specs.Edge.{Edge, edge}
use Rattle.polygon.specs.Edges.{edge_at, direct, IsEdge}
use Rattle.polygon.specs.Change.{Hung, Crossed, Plan, uncross, hoist}
use Rattle.polygon.specs.Ring.{next, at, IsRing}
use Rattle.machine.specs.Board.{pt_at, kink_at, meet_edges, Distinct, AllOnLine}
use Rattle.machine.specs.Search.{flat, plan_at}
use Rattle.algebra.specs.Cases.{both, true_or_false}
use Rattle.polygon.proofs.RingEdges.{edges_differ}
use Rattle.polygon.proofs.Index.{direct_edge}
use Rattle.machine.proofs.Runs.{Corner}
use Rattle.machine.proofs.Corners.{ring_apart, has_corner}
use Rattle.machine.proofs.Crossed.{crossed, uncrossed}
use Rattle.machine.proofs.Kinks.{kink_theorem}
use Rattle.machine.proofs.LeastCorner.{least_corner}
use Rattle.machine.proofs.EdgesMeet.{meets_ends}

-- a plan that does something, and what it does
pub data Works (n : ℕ) (pt : ℕ → Point) (r : List ℕ) : Plan → Type 0 where
  uncrosses : {a b : ℕ} → Crossed n a b → meet_edges pt (edge (at r a) (at r b)) (edge (at r (next n a)) (at r (next n b))) ≡ false → Works n pt r (uncross a b)
  hoists : {k p : ℕ} → Hung n k p → kink_at n pt r k ≡ true → inside (pt_at pt r p) (pt_at pt r (next n p)) (pt_at pt r k) ≡ true → Works n pt r (hoist k p)

module _ (n : ℕ) (pt : ℕ → Point) (three≤ : 3 ≤ n) (di : Distinct n pt) (corner : ¬ (AllOnLine n pt)) (r : List ℕ) (ring : IsRing n r) where
  abbrev P : ℕ → Point
  P = pt_at pt r

  -- the position of an edge
  pub direct_finds : (e : Edge) → IsEdge n r e → (direct n r e < n) × (edge_at n r (direct n r e) ≡ e)
  direct_finds e (i, l, p) =
      let q : direct n r e ≡ i = ap (direct n r) (sym p) ∙ direct_edge n r ring three≤ i l in
      (rw q l, ap (edge_at n r) q ∙ p)

  pub plan_at_lem : (a b : ℕ) → a < n → b < n → a ≢ b → meet_edges pt (edge_at n r a) (edge_at n r b) ≡ true → Works n pt r (plan_at n pt r a b)
  plan_at_lem a b la lb ab m =
      let m' = sym (meets_ends pt (at r a) (at r (next n a)) (at r b) (at r (next n b))) ∙ m in
      let (c, lc, co) = has_corner n pt three≤ di r ring corner in
      both (true_or_false (flat n pt r a b))
      (λ t. let z = kink_theorem n pt r three≤ (ring_apart n pt r ring di) c lc co a b la lb ab t m' in
      rw (t, z.is) (hoists (record { lk = z.lk; lp = z.lp; kp = z.kp; not_on = z.not_on }) z.kink z.within))
      (λ t. rw t (uncrosses (crossed n pt r a b la lb t m') (meets_ends pt (at r a) (at r b) (at r (next n a)) (at r (next n b)) ∙ uncrossed n pt r a b la lb t m')))

  pub plan_of_lem : (e f : Edge) → IsEdge n r e → IsEdge n r f → e ≢ f → meet_edges pt e f ≡ true → Works n pt r (plan_at n pt r (direct n r e) (direct n r f))
  plan_of_lem e f ie jf ne m =
      let (le, pe) = direct_finds e ie in
      let (lf, pf) = direct_finds f jf in
      plan_at_lem (direct n r e) (direct n r f) le lf (λ z. ne (sym pe ∙ ap (edge_at n r) z ∙ pf)) (rw (pe, pf) m)

  -- no two edges meet: the least point is a corner
  pub least : (m : ℕ) → m < n → ((i : ℕ) → i < n → i ≢ m → lt_point (P m) (P i) ≡ true) →
      ((e f : Edge) → IsEdge n r e → IsEdge n r f → e ≢ f → meet_edges pt e f ≡ false) → Corner n pt r m
  least m lm le nm =
      least_corner n pt r (omega arith) m lm le
      (λ a b la lb ab. sym (meets_ends pt (at r a) (at r (next n a)) (at r b) (at r (next n b))) ∙ nm (edge_at n r a) (edge_at n r b) (a, la, refl) (b, lb, refl) (λ z. ab (edges_differ n r ring three≤ a b la lb z)))
