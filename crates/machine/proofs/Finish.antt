-- The least point, and the reversal of the whole loop: the same edges, and every turn the other way.
use mathlib.Core.Path.{◌≡◌, sym, ◌∙◌, ap}
use mathlib.Core.Bool.{true}
use mathlib.Core.List.{List, [], ◌∷◌}
use mathlib.Core.Logic.{◌≢◌}
use Prim.Native.Nat.{ℕ, zero, suc, ◌-◌, ◌≤◌, ◌<◌}
use native.Mathlib.Omega.{arith}
use lib.IntN.{ℤ, pos, neg_ℤ}
use lib.Signed.{lt_z, ◌≤ℤ◌, ◌<ℤ◌}
use borrow.Author.Differences.{ints}
use Rattle.algebra.specs.Signs.{flip}
use Rattle.algebra.specs.Polynomials.{neg}
use Rattle.algebra.specs.Identities.{ident, pair, ◌:=◌}
use Rattle.geometry.proofs.Turns.{turn_of_edge}
use Rattle.geometry.specs.Plane.{Point, turn, lt_point}
use Rattle.geometry.proofs.Points.{is_below, below_is, lt_int_cases, lt_point_trans, lt_point_not, lt_point_total, zero_is}
use Rattle.index_edge.specs.Edge.{Edge, edge_in}
use Rattle.polygon.specs.Ring.{next, prev, turned_round, IsRing}
use Rattle.polygon.specs.Edges.{edges}
use Rattle.machine.specs.Board.{pt_at, turn_at, is_straight_line}
use Rattle.machine.specs.Answer.{least_to, finish}
use Rattle.machine.specs.Demand3.{Least, Finished}
use Rattle.algebra.specs.Cases.{both, eq_cases, true_or_false, never}
use Rattle.polygon.proofs.Positions.{next_lt, prev_lt}
use Rattle.polygon.proofs.WholeReversal.{whole, whole_lt, whole_whole, whole_next, whole_prev, back_at, back_ring, back_edges}
use Rattle.geometry.proofs.Height.{Apart}
use Rattle.machine.proofs.Runs.{Corner}

pub least_one : (n : ℕ) (pt : ℕ → Point) (r : List ℕ) (l m : ℕ) → Least n pt r l → Least n pt r m → l ≡ m
least_one n pt r l m p q =
    both (eq_cases l m) (λ h. h.0)
    (λ h. absurd (lt_point_not (pt_at pt r l) (pt_at pt r m) (is_below _ _ (p.below m q.within (λ e. h.0 (sym e)))) (is_below _ _ (q.below l p.within h.0))))

-- ---- the search for it
module _ (n : ℕ) (pt : ℕ → Point) (r : List ℕ) (apart : Apart n (pt_at pt r)) where
  abbrev P : ℕ → Point
  P = pt_at pt r

  least_to_le : (k : ℕ) → least_to n pt r k ≤ k
  least_to_le zero = omega arith
  least_to_le (suc k) =
      let h = least_to_le k in
      both (true_or_false (lt_point (P (suc k)) (P (least_to n pt r k)))) (λ t. rw t (omega arith)) (λ t. rw t (omega arith))

  least_to_below : (k : ℕ) → k < n → (i : ℕ) → i ≤ k → i ≢ least_to n pt r k → lt_point (P (least_to n pt r k)) (P i) ≡ true
  least_to_below zero lk = λ i li ne. absurd (omega arith)
  least_to_below (suc k) lk =
      let j = least_to n pt r k in
      let lj = least_to_le k in
      let ih = least_to_below k (omega arith) in
      both (true_or_false (lt_point (P (suc k)) (P j)))
      (λ t. rw t (λ i li ne. both (eq_cases i j) (λ h. rw h.0 t) (λ h. lt_point_trans (P (suc k)) (P j) (P i) t (ih i (omega arith) h.0))))
      (λ t. rw t (λ i li ne. both (eq_cases i (suc k))
      (λ h. rw h.0 (both (lt_point_total (P j) (P (suc k)) (λ e. (let z = apart j (suc k) (omega arith) lk e in omega arith))) (λ g. g) (λ g. never (lt_point (P (suc k)) (P j)) g t)))
      (λ h. ih i (omega arith) ne)))

  pub least_found : 0 < n → Least n pt r (least_to n pt r (n - 1))
  least_found some =
      let h = least_to_le (n - 1) in
      record { within = omega arith; below = λ i l ne. below_is _ _ (least_to_below (n - 1) (omega arith) i (omega arith) ne) }

-- ---- the whole loop reversed
module _ (n : ℕ) (some : 0 < n) (r : List ℕ) (pt : ℕ → Point) where
  abbrev back : List ℕ
  back = turned_round n r

  abbrev mirrored : ℕ → ℕ
  mirrored = whole n some

  back_point : (i : ℕ) → i < n → pt_at pt back i ≡ pt_at pt r (mirrored i)
  back_point i l = ap pt (back_at n some r i l)

  -- every turn the other way
  pub back_turn : (i : ℕ) → i < n → turn_at n pt back i ≡ neg_ℤ (turn_at n pt r (mirrored i))
  back_turn i l =
      rw (back_point i l, back_point (prev n i) (prev_lt n i l), back_point (next n i) (next_lt n i l), whole_next n some i l, whole_prev n some i l)
      (other_way (pt_at pt r (next n (mirrored i))) (pt_at pt r (mirrored i)) (pt_at pt r (prev n (mirrored i))))
    where
      other_way : (a b c : Point) → turn a b c ≡ neg_ℤ (turn c b a)
      other_way = ident (pair ∷ pair ∷ pair ∷ []) (λ a b c. turn_of_edge a b c := neg (turn_of_edge c b a)) tt

  pub back_least : (m : ℕ) → Least n pt r m → Least n pt back (mirrored m)
  back_least m le = record {
    within = whole_lt n some m le.within;
    below = λ i l ne.
        rw (back_point i l, back_point (mirrored m) (whole_lt n some m le.within), whole_whole n some m le.within)
        (le.below (mirrored i) (whole_lt n some i l) (λ e. ne (sym (whole_whole n some i l) ∙ ap mirrored e)));
  }

-- ---- the loop that is delivered for a ring
module _ (n : ℕ) (pt : ℕ → Point) (r : List ℕ) (some : 0 < n) (ring : IsRing n r) (apart : Apart n (pt_at pt r)) where
  abbrev m : ℕ
  m = least_to n pt r (n - 1)

  pub finish_ring : IsRing n (finish n pt r)
  finish_ring = both (true_or_false (lt_z (turn_at n pt r m) (pos 0))) (λ t. rw t (back_ring n some r ring)) (λ t. rw t ring)

  pub finish_edges : (e : Edge) → edge_in e (edges n (finish n pt r)) ≡ edge_in e (edges n r)
  finish_edges e = both (true_or_false (lt_z (turn_at n pt r m) (pos 0))) (λ t. rw t (back_edges n some r e)) (λ t. rw t)

  -- the least point is a corner
  module _ (co : (i : ℕ) → Least n pt r i → Corner n pt r i) where
    nz : turn_at n pt r m ≢ pos 0
    nz e = never (is_straight_line n pt r m) (zero_is (turn_at n pt r m) e) (co m (least_found n pt r apart some))

    pub finish_is : Finished n pt r (finish n pt r)
    finish_is = record {
      least = m;
      is_least = least_found n pt r apart some;
      clockwise = λ h. both (lt_int_cases (turn_at n pt r m) (pos 0)) (λ g. rw g.1) (λ g. absurd (omega (arith, ints)));
      counter = λ h. both (lt_int_cases (turn_at n pt r m) (pos 0)) (λ g. absurd (omega (arith, ints))) (λ g. rw g.1);
      corner = nz;
    }

    -- so that of the finished loop turns counter-clockwise
    pub finish_turn : (i : ℕ) × Least n pt (finish n pt r) i × (pos 0 <ℤ turn_at n pt (finish n pt r) i)
    finish_turn =
        let le = least_found n pt r apart some in
        both (lt_int_cases (turn_at n pt r m) (pos 0))
        (λ h. let lw = whole_lt n some m le.within in
        let e : turn_at n pt (turned_round n r) (whole n some m) ≡ neg_ℤ (turn_at n pt r m) = back_turn n some r pt (whole n some m) lw ∙ ap (λ j. neg_ℤ (turn_at n pt r j)) (whole_whole n some m le.within) in
        rw h.1 (whole n some m, back_least n some r pt m le, rw e (flip h.0)))
        (λ h. rw h.1 (m, le, positive (turn_at n pt r m) h.0 nz))
      where
        positive : (z : ℤ) → pos 0 ≤ℤ z → z ≢ pos 0 → pos 0 <ℤ z
        positive z h ne = omega (arith, ints)
