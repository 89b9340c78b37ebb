-- A corner: every vertex of a ring of distinct points is straight only if all points lie on one line. So on a board every ring has one.
use mathlib.Core.Path.{◌≡◌, sym, subst}
use mathlib.Core.List.{List}
use mathlib.Core.Logic.{◌⊎◌, inl, inr, ◌≢◌}
use Prim.Native.Nat.{ℕ, zero, suc, ◌≤◌, ◌<◌}
use native.Mathlib.Omega.{arith}
use lib.IntN.{pos}
use Rattle.geometry.specs.Plane.{Point, turn}
use Rattle.geometry.proofs.Points.{zero_is, turn_first, turn_second, three}
use Rattle.polygon.specs.Ring.{next, prev, at, IsRing}
use Rattle.machine.specs.Board.{pt_at, is_straight_line, Distinct, AllOnLine}
use Rattle.algebra.specs.Cases.{both, eq_cases, true_or_false}
use Rattle.polygon.proofs.EachOnce.{ring_has}
use Rattle.polygon.proofs.Positions.{next_cases, prev_cases, next_lt, prev_lt}
use Rattle.geometry.proofs.Height.{Apart}
use Rattle.machine.proofs.Runs.{Straight, Corner, line_on}

-- ---- distinct points
pub ring_apart : (n : ℕ) (pt : ℕ → Point) (r : List ℕ) → IsRing n r → Distinct n pt → Apart n (pt_at pt r)
ring_apart n pt r ring di i j li lj e = ring.apart i j li lj (di (at r i) (at r j) (ring.below i li) (ring.below j lj) e)

module _ (n : ℕ) (pt : ℕ → Point) (three≤ : 3 ≤ n) (di : Distinct n pt) (r : List ℕ) (ring : IsRing n r) where
  abbrev P : ℕ → Point
  P = pt_at pt r

  first_two : P 0 ≢ P 1
  first_two e = (let z = ring_apart n pt r ring di 0 1 (omega arith) (omega arith) e in omega arith)

  line_up : ((i : ℕ) → i < n → Straight n pt r i) → (i : ℕ) → suc i < n → (turn (P 0) (P 1) (P i) ≡ pos 0) × (turn (P 0) (P 1) (P (suc i)) ≡ pos 0)
  line_up st zero l = (turn_first (P 0) (P 1), turn_second (P 0) (P 1))
  line_up st (suc i) l =
      let (a, b) = line_up st i (omega arith) in
      let ep : prev n (suc i) ≡ i = both (prev_cases n (suc i) (omega arith)) (λ h. absurd (omega arith)) (λ h. omega arith) in
      let en : next n (suc i) ≡ suc (suc i) = both (next_cases n (suc i)) (λ h. absurd (omega arith)) (λ h. h.1) in
      (b, subst (λ j. turn (P 0) (P 1) (P j) ≡ pos 0) en (line_on n pt r three≤ (ring_apart n pt r ring di) (P 0) (P 1) first_two (suc i) (omega arith) (st (suc i) (omega arith)) (rw ep a) b))

  on_first : ((i : ℕ) → i < n → Straight n pt r i) → (i : ℕ) → i < n → turn (P 0) (P 1) (P i) ≡ pos 0
  on_first st zero l = turn_first (P 0) (P 1)
  on_first st (suc i) l = (line_up st i l).1

  -- every vertex straight: all points on one line
  pub straight_line : ((i : ℕ) → i < n → Straight n pt r i) → AllOnLine n pt
  straight_line st x y z lx ly lz =
      let (i, li, ei) = ring_has ring x lx in
      let (j, lj, ej) = ring_has ring y ly in
      let (k, lk, ek) = ring_has ring z lz in
      rw (sym ei, sym ej, sym ek) (three (P 0) (P 1) (P i) (P j) (P k) first_two (on_first st i li) (on_first st j lj) (on_first st k lk))

  -- and the other way round
  pub line_straight : AllOnLine n pt → (i : ℕ) → i < n → Straight n pt r i
  line_straight al i l = zero_is _ (al (at r (prev n i)) (at r i) (at r (next n i)) (ring.below (prev n i) (prev_lt n i l)) (ring.below i l) (ring.below (next n i) (next_lt n i l)))

  search : (k : ℕ) → ((i : ℕ) → i < k → Straight n pt r i) ⊎ ((c : ℕ) × (c < k) × Corner n pt r c)
  search zero = inl (λ i l. absurd (omega arith))
  search (suc k) =
      both (search k)
      (λ h. both (true_or_false (is_straight_line n pt r k)) (λ t. inl (λ i l. both (eq_cases i k) (λ e. rw e.0 t) (λ e. h i (omega arith)))) (λ t. inr (k, omega arith, t)))
      (λ (c, l, t). inr (c, omega arith, t))

  -- points not all on one line: this ring has a corner
  pub has_corner : ¬ (AllOnLine n pt) → (c : ℕ) × (c < n) × Corner n pt r c
  has_corner no_line = both (search n) (λ h. absurd (no_line (straight_line h))) (λ h. h)
