-- Runs: they end at corners, lie on the edge's line, and hold the edge.
use mathlib.Core.Path.{◌≡◌, sym, ap, subst}
use mathlib.Core.Bool.{true, false}
use mathlib.Core.List.{List}
use mathlib.Core.Logic.{◌≢◌}
use Prim.Native.Nat.{ℕ, zero, suc, ◌≤◌, ◌<◌}
use native.Mathlib.Omega.{arith}
use lib.IntN.{pos}
use Rattle.geometry.proofs.Places.{collinear_trans}
use Rattle.geometry.specs.Plane.{Point, turn}
use Rattle.geometry.proofs.Points.{zero_yes, zero_is, turn_back, turn_first, turn_second, three}
use Rattle.polygon.specs.Ring.{next, prev, dist}
use Rattle.machine.specs.Board.{pt_at, is_straight_line}
use Rattle.machine.specs.Search.{run_back, run_on}
use Rattle.algebra.specs.Cases.{both, le_cases, eq_cases, true_or_false, never}
use Rattle.polygon.proofs.Positions.{next_cases, dist_cases, next_lt, prev_lt, next_prev, prev_next, dist_self, dist_lt, dist_inj, dist_pred, dist_zero, prev_not, next_not}
use Rattle.geometry.proofs.Height.{Apart}
use Rattle.machine.proofs.SearchFits.{run_back_lt, run_on_lt}

-- from one place on it is one step less
pub dist_from : (n i c : ℕ) → i < n → c < n → i ≢ c → suc (dist n (next n i) c) ≡ dist n i c
dist_from n i c li lc ne =
    both (next_cases n i)
    (λ h. both (dist_cases n i c li)
    (λ g. both (dist_cases n (next n i) c (next_lt n i li)) (λ f. omega arith) (λ f. omega arith))
    (λ g. both (dist_cases n (next n i) c (next_lt n i li)) (λ f. omega arith) (λ f. omega arith)))
    (λ h. both (dist_cases n i c li)
    (λ g. both (dist_cases n (next n i) c (next_lt n i li)) (λ f. omega arith) (λ f. omega arith))
    (λ g. both (dist_cases n (next n i) c (next_lt n i li)) (λ f. omega arith) (λ f. omega arith)))

pub dist_pos : (n i c : ℕ) → i < n → c < n → i ≢ c → 0 < dist n i c
dist_pos n i c li lc ne = let e = dist_from n i c li lc ne in omega arith

module _ (n : ℕ) (pt : ℕ → Point) (r : List ℕ) where
  abbrev pub Straight : ℕ → Type 0
  Straight i = is_straight_line n pt r i ≡ true

  abbrev pub Corner : ℕ → Type 0
  Corner i = is_straight_line n pt r i ≡ false

  -- ---- a run ends at a corner
  module _ (c : ℕ) (lc : c < n) (cc : Corner c) where
    pub run_on_corner : (k i : ℕ) → i < n → dist n i c ≤ k → Corner (run_on n pt k r i)
    run_on_corner zero i l h = rw (sym (dist_zero n i l c lc (omega arith))) cc
    run_on_corner (suc k) i l h =
        both (true_or_false (is_straight_line n pt r i))
        (λ t. rw t (run_on_corner k (next n i) (next_lt n i l)
        (both (eq_cases i c) (λ e. never (is_straight_line n pt r i) t (rw e.0 cc)) (λ e. let p = dist_from n i c l lc e.0 in omega arith))))
        (λ t. rw t t)

    pub run_back_corner : (k i : ℕ) → i < n → dist n c i ≤ k → Corner (run_back n pt k r i)
    run_back_corner zero i l h = rw (dist_zero n c lc i l (omega arith)) cc
    run_back_corner (suc k) i l h =
        both (true_or_false (is_straight_line n pt r i))
        (λ t. rw t (run_back_corner k (prev n i) (prev_lt n i l)
        (both (eq_cases i c) (λ e. never (is_straight_line n pt r i) t (rw e.0 cc)) (λ e. let p = dist_pred n c lc i l (dist_pos n c i lc l (λ z. e.0 (sym z))) in omega arith))))
        (λ t. rw t t)

  -- ---- what stands between is straight
  back_step : (e i : ℕ) → e < n → i < n → Straight i → ((j : ℕ) → j < n → 0 < dist n e j → dist n e j ≤ dist n e (prev n i) → Straight j) →
      (j : ℕ) → j < n → 0 < dist n e j → dist n e j ≤ dist n e i → Straight j
  back_step e i le li s b j lj h g =
      both (eq_cases (dist n e j) (dist n e i))
      (λ q. rw (dist_inj n e le j i lj li q.0) s)
      (λ q. b j lj h (let z = dist_pred n e le i li (omega arith) in omega arith))

  pub run_back_between : (k i : ℕ) → i < n → (j : ℕ) → j < n → 0 < dist n (run_back n pt k r i) j → dist n (run_back n pt k r i) j ≤ dist n (run_back n pt k r i) i → Straight j
  run_back_between zero i l = λ j lj h g. absurd (let z = dist_self n i l in omega arith)
  run_back_between (suc k) i l =
      both (true_or_false (is_straight_line n pt r i))
      (λ t. rw t (back_step (run_back n pt k r (prev n i)) i (run_back_lt n pt r k (prev n i) (prev_lt n i l)) l t (run_back_between k (prev n i) (prev_lt n i l))))
      (λ t. rw t (λ j lj h g. absurd (let z = dist_self n i l in omega arith)))

  on_step : (e i : ℕ) → e < n → i < n → Straight i → ((j : ℕ) → j < n → dist n (next n i) j < dist n (next n i) e → Straight j) →
      (j : ℕ) → j < n → dist n i j < dist n i e → Straight j
  on_step e i le li s b j lj h =
      both (eq_cases i j)
      (λ q. rw (sym q.0) s)
      (λ q. both (eq_cases i e)
      (λ p. absurd (omega (arith, dist_self n i li, ap (dist n i) p.0)))
      (λ p. b j lj (let z = dist_from n i j li lj q.0 in let y = dist_from n i e li le p.0 in omega arith)))

  pub run_on_between : (k i : ℕ) → i < n → (j : ℕ) → j < n → dist n i j < dist n i (run_on n pt k r i) → Straight j
  run_on_between zero i l = λ j lj h. absurd (let z = dist_self n i l in omega arith)
  run_on_between (suc k) i l =
      both (true_or_false (is_straight_line n pt r i))
      (λ t. rw t (on_step (run_on n pt k r (next n i)) i (run_on_lt n pt r k (next n i) (next_lt n i l)) l t (run_on_between k (next n i) (next_lt n i l))))
      (λ t. rw t (λ j lj h. absurd (let z = dist_self n i l in omega arith)))

  -- ---- the line of u and v
  abbrev pub OnL : Point → Point → ℕ → Type 0
  OnL u v i = turn u v (pt_at pt r i) ≡ pos 0

  module _ (three≤ : 3 ≤ n) (apart : Apart n (pt_at pt r)) (u v : Point) (uv : u ≢ v) where
    pub line_on : (i : ℕ) → i < n → Straight i → OnL u v (prev n i) → OnL u v i → OnL u v (next n i)
    line_on i l s p q = collinear_trans u v (pt_at pt r (prev n i)) (pt_at pt r i) (pt_at pt r (next n i)) p q (λ e. prev_not n i (omega arith) l (apart (prev n i) i (prev_lt n i l) l e)) (zero_yes _ s)

    pub line_back : (i : ℕ) → i < n → Straight i → OnL u v (next n i) → OnL u v i → OnL u v (prev n i)
    line_back i l s p q = collinear_trans u v (pt_at pt r (next n i)) (pt_at pt r i) (pt_at pt r (prev n i)) p q (λ e. next_not n i (omega arith) l (apart (next n i) i (next_lt n i l) l e)) (turn_back (pt_at pt r (prev n i)) (pt_at pt r i) (pt_at pt r (next n i)) (zero_yes _ s))

    pub straight_if : (i : ℕ) → OnL u v (prev n i) → OnL u v i → OnL u v (next n i) → Straight i
    straight_if i p q s = zero_is _ (three u v (pt_at pt r (prev n i)) (pt_at pt r i) (pt_at pt r (next n i)) uv p q s)

    pub run_on_line : (k i : ℕ) → i < n → OnL u v (prev n i) → OnL u v i → OnL u v (prev n (run_on n pt k r i)) × OnL u v (run_on n pt k r i)
    run_on_line zero i l p q = (p, q)
    run_on_line (suc k) i l p q =
        both (true_or_false (is_straight_line n pt r i))
        (λ t. rw t (run_on_line k (next n i) (next_lt n i l) (rw (prev_next n i l) q) (line_on i l t p q)))
        (λ t. rw t (p, q))

    pub run_back_line : (k i : ℕ) → i < n → OnL u v (next n i) → OnL u v i → OnL u v (next n (run_back n pt k r i)) × OnL u v (run_back n pt k r i)
    run_back_line zero i l p q = (p, q)
    run_back_line (suc k) i l p q =
        both (true_or_false (is_straight_line n pt r i))
        (λ t. rw t (run_back_line k (prev n i) (prev_lt n i l) (rw (next_prev n i l) q) (line_back i l t p q)))
        (λ t. rw t (p, q))

    -- the whole run lies on the line
    pub run_back_all : (k i : ℕ) → i < n → OnL u v (next n i) → OnL u v i → (j : ℕ) → j < n → dist n (run_back n pt k r i) j ≤ dist n (run_back n pt k r i) i → OnL u v j
    run_back_all zero i l p q = λ j lj h. rw (dist_zero n i l j lj (omega (arith, dist_self n i l))) q
    run_back_all (suc k) i l p q =
        both (true_or_false (is_straight_line n pt r i))
        (λ t. rw t (back_all (run_back n pt k r (prev n i)) i (run_back_lt n pt r k (prev n i) (prev_lt n i l)) l q (run_back_all k (prev n i) (prev_lt n i l) (rw (next_prev n i l) q) (line_back i l t p q))))
        (λ t. rw t (λ j lj h. rw (dist_zero n i l j lj (omega (arith, dist_self n i l))) q))
      where
        back_all : (e i : ℕ) → e < n → i < n → OnL u v i → ((j : ℕ) → j < n → dist n e j ≤ dist n e (prev n i) → OnL u v j) → (j : ℕ) → j < n → dist n e j ≤ dist n e i → OnL u v j
        back_all e i le li q b j lj h =
            both (eq_cases (dist n e j) (dist n e i))
            (λ z. rw (dist_inj n e le j i lj li z.0) q)
            (λ z. b j lj (let y = dist_pred n e le i li (omega arith) in omega arith))

    pub run_on_all : (k i : ℕ) → i < n → OnL u v (prev n i) → OnL u v i → (j : ℕ) → j < n → dist n i j ≤ dist n i (run_on n pt k r i) → OnL u v j
    run_on_all zero i l p q = λ j lj h. rw (dist_zero n i l j lj (omega (arith, dist_self n i l))) q
    run_on_all (suc k) i l p q =
        both (true_or_false (is_straight_line n pt r i))
        (λ t. rw t (on_all (run_on n pt k r (next n i)) i (run_on_lt n pt r k (next n i) (next_lt n i l)) l q (run_on_all k (next n i) (next_lt n i l) (rw (prev_next n i l) q) (line_on i l t p q))))
        (λ t. rw t (λ j lj h. rw (dist_zero n i l j lj (omega (arith, dist_self n i l))) q))
      where
        on_all : (e i : ℕ) → e < n → i < n → OnL u v i → ((j : ℕ) → j < n → dist n (next n i) j ≤ dist n (next n i) e → OnL u v j) → (j : ℕ) → j < n → dist n i j ≤ dist n i e → OnL u v j
        on_all e i le li q b j lj h =
            both (eq_cases i j)
            (λ z. rw (sym z.0) q)
            (λ z. both (eq_cases i e)
            (λ y. absurd (omega (arith, dist_pos n i j li lj z.0, dist_self n i li, ap (dist n i) y.0)))
            (λ y. b j lj (let w = dist_from n i j li lj z.0 in let x = dist_from n i e li le y.0 in omega arith)))

  -- ---- the run of the edge at a, from s to t
  pub record RunOf (a s t : ℕ) : Type 0 where
    pub corner₀ : Corner s
    pub corner₁ : Corner t
    pub holds : dist n s a < dist n s t
    pub line₀ : (j : ℕ) → j < n → dist n s j ≤ dist n s a → OnL (pt_at pt r a) (pt_at pt r (next n a)) j
    pub line₁ : (j : ℕ) → j < n → dist n (next n a) j ≤ dist n (next n a) t → OnL (pt_at pt r a) (pt_at pt r (next n a)) j
    pub straight₀ : (j : ℕ) → j < n → 0 < dist n s j → dist n s j ≤ dist n s a → Straight j
    pub straight₁ : (j : ℕ) → j < n → dist n (next n a) j < dist n (next n a) t → Straight j

  module _ (three≤ : 3 ≤ n) (apart : Apart n (pt_at pt r)) (c : ℕ) (lc : c < n) (cc : Corner c) (a : ℕ) (la : a < n) where
    abbrev u : Point
    u = pt_at pt r a

    abbrev v : Point
    v = pt_at pt r (next n a)

    la' : next n a < n
    la' = next_lt n a la

    uv : u ≢ v
    uv z = next_not n a (omega arith) la (sym (apart a (next n a) la la' z))

    corner_first : Corner (run_back n pt n r a)
    corner_first = run_back_corner c lc cc n a la (omega (arith, dist_lt n c lc a la))

    corner_last : Corner (run_on n pt n r (next n a))
    corner_last = run_on_corner c lc cc n (next n a) la' (omega (arith, dist_lt n (next n a) la' c lc))

    on_prev : OnL u v (prev n (next n a))
    on_prev = rw (prev_next n a la) (turn_first u v)

    ends_apart : run_back n pt n r a ≢ run_on n pt n r (next n a)
    ends_apart e =
        let b = run_back_line three≤ apart u v uv n a la (turn_second u v) (turn_first u v) in
        let o = run_on_line three≤ apart u v uv n (next n a) la' on_prev (turn_second u v) in
        never (is_straight_line n pt r (run_back n pt n r a)) (straight_if three≤ apart u v uv (run_back n pt n r a) (subst (λ x. OnL u v (prev n x)) (sym e) o.0) b.1 b.0) corner_first

    pub run_of : RunOf a (run_back n pt n r a) (run_on n pt n r (next n a))
    run_of =
        let s = run_back n pt n r a in
        let t = run_on n pt n r (next n a) in
        let ls = run_back_lt n pt r n a la in
        let lt = run_on_lt n pt r n (next n a) la' in
        record {
          corner₀ = corner_first;
          corner₁ = corner_last;
          holds = both (le_cases (dist n s t) (dist n s a))
              (λ h. never (is_straight_line n pt r t) (run_back_between n a la t lt (dist_pos n s t ls lt ends_apart) h.0) corner_last)
              (λ h. h.0);
          line₀ = run_back_all three≤ apart u v uv n a la (turn_second u v) (turn_first u v);
          line₁ = run_on_all three≤ apart u v uv n (next n a) la' on_prev (turn_second u v);
          straight₀ = run_back_between n a la;
          straight₁ = run_on_between n (next n a) la';
        }
