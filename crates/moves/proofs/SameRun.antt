-- Every edge of a run has that run.
use mathlib.Core.Path.{◌≡◌, sym, ap}
use mathlib.Core.List.{List}
use Prim.Native.Nat.{ℕ, zero, suc, ◌+◌, ◌≤◌, ◌<◌}
use native.Mathlib.Omega.{arith}
use Rattle.algebra.specs.Cases.{both, eq_cases, le_cases, never}
use Rattle.geometry.specs.Plane.{Point}
use Rattle.polygon.specs.Ring.{next, prev, dist}
use Rattle.polygon.specs.Place.{position}
use Rattle.polygon.proofs.Positions.{dist_cases, next_lt, prev_lt, dist_self, dist_lt, dist_suc, dist_pred, dist_zero}
use Rattle.machine.specs.Board.{is_straight_line}
use Rattle.machine.specs.Search.{run_back, run_on}
use Rattle.machine.proofs.SearchFits.{run_back_lt, run_on_lt}
use Rattle.machine.proofs.Runs.{dist_from, dist_pos, Straight, Corner, run_on_corner, run_back_corner, run_back_between, run_on_between}
use Rattle.moves.specs.Runs.{run_from}

-- from p past q to t
dist_split : (n p q t : ℕ) → p < n → q < n → t < n → dist n p q ≤ dist n p t → dist n p q + dist n q t ≡ dist n p t
dist_split n p q t lp lq lt h =
    both (dist_cases n p q lp)
    (λ a. both (dist_cases n p t lp) (λ b. both (dist_cases n q t lq) (λ c. omega arith) (λ c. omega arith)) (λ b. both (dist_cases n q t lq) (λ c. omega arith) (λ c. omega arith)))
    (λ a. both (dist_cases n p t lp) (λ b. both (dist_cases n q t lq) (λ c. omega arith) (λ c. omega arith)) (λ b. both (dist_cases n q t lq) (λ c. omega arith) (λ c. omega arith)))

-- from p to t by way of q, if that is less than once around
dist_join : (n p q t : ℕ) → p < n → q < n → t < n → dist n p q + dist n q t < n → dist n p q + dist n q t ≡ dist n p t
dist_join n p q t lp lq lt h =
    both (dist_cases n p q lp)
    (λ a. both (dist_cases n p t lp) (λ b. both (dist_cases n q t lq) (λ c. omega arith) (λ c. omega arith)) (λ b. both (dist_cases n q t lq) (λ c. omega arith) (λ c. omega arith)))
    (λ a. both (dist_cases n p t lp) (λ b. both (dist_cases n q t lq) (λ c. omega arith) (λ c. omega arith)) (λ b. both (dist_cases n q t lq) (λ c. omega arith) (λ c. omega arith)))

module _ (n : ℕ) (pt : ℕ → Point) (r : List ℕ) where
  -- back past straight vertices to a corner
  back_is : (k e j : ℕ) → e < n → j < n → Corner n pt r e → ((t : ℕ) → t < n → 0 < dist n e t → dist n e t ≤ dist n e j → Straight n pt r t) → dist n e j ≤ k → run_back n pt k r j ≡ e
  back_is zero e j le lj ce s h = dist_zero n e le j lj (omega arith)
  back_is (suc k) e j le lj ce s h =
      both (eq_cases j e)
      (λ q. rw (ap (is_straight_line n pt r) q.0, ce) q.0)
      (λ q.
      let p = dist_pos n e j le lj (λ z. q.0 (sym z)) in
      let d = dist_pred n e le j lj p in
      rw (s j lj p (omega arith)) (back_is k e (prev n j) le (prev_lt n j lj) ce (λ t lt h₀ h₁. s t lt h₀ (omega arith)) (omega arith)))

  -- on past straight vertices to a corner
  on_is : (k e i : ℕ) → e < n → i < n → Corner n pt r e → ((t : ℕ) → t < n → dist n i t < dist n i e → Straight n pt r t) → dist n i e ≤ k → run_on n pt k r i ≡ e
  on_is zero e i le li ce s h = sym (dist_zero n i li e le (omega arith))
  on_is (suc k) e i le li ce s h =
      both (eq_cases i e)
      (λ q. rw (ap (is_straight_line n pt r) q.0, ce) q.0)
      (λ q.
      let d = dist_from n i e li le q.0 in
      rw (s i li (omega (arith, dist_self n i li)))
      (on_is k e (next n i) le (next_lt n i li) ce (λ t lt g. both (eq_cases i t) (λ z. s t lt (omega (arith, dist_self n i li, ap (dist n i) z.0))) (λ z. s t lt (omega (arith, dist_from n i t li lt z.0)))) (omega arith)))

  -- the edge at j lies on the run of the edge at i, in a ring with a corner c
  module _ (c : ℕ) (lc : c < n) (cc : Corner n pt r c) (i j : ℕ) (li : i < n) (lj : j < n)
      (on : dist n (run_back n pt n r i) j < dist n (run_back n pt n r i) (run_on n pt n r (next n i))) where
    abbrev a₀ : ℕ
    a₀ = run_back n pt n r i

    abbrev a₁ : ℕ
    a₁ = run_on n pt n r (next n i)

    l₀ : a₀ < n
    l₀ = run_back_lt n pt r n i li

    l₁ : a₁ < n
    l₁ = run_on_lt n pt r n (next n i) (next_lt n i li)

    c₀ : Corner n pt r a₀
    c₀ = run_back_corner n pt r c lc cc n i li (omega (arith, dist_lt n c lc i li))

    c₁ : Corner n pt r a₁
    c₁ = run_on_corner n pt r c lc cc n (next n i) (next_lt n i li) (omega (arith, dist_lt n (next n i) (next_lt n i li) c lc))

    -- the run goes on past i
    past : dist n a₀ i < dist n a₀ a₁
    past =
        both (le_cases (suc (dist n a₀ i)) (dist n a₀ a₁)) (λ h. h.0)
        (λ h. never (is_straight_line n pt r a₁) (run_back_between n pt r n i li a₁ l₁ (omega arith) (omega (arith, h.0))) c₁)

    -- its vertices are straight
    straight : (t : ℕ) → t < n → 0 < dist n a₀ t → dist n a₀ t < dist n a₀ a₁ → Straight n pt r t
    straight t lt h g =
        both (le_cases (dist n a₀ t) (dist n a₀ i))
        (λ u. run_back_between n pt r n i li t lt h u.0)
        (λ u.
        let e = dist_suc n a₀ l₀ i li (omega (arith, past, dist_lt n a₀ l₀ a₁ l₁)) in
        let y = dist_split n a₀ (next n i) t l₀ (next_lt n i li) lt (omega (arith, e, u.0)) in
        let z = dist_split n a₀ (next n i) a₁ l₀ (next_lt n i li) l₁ (omega (arith, e, past)) in
        run_on_between n pt r n (next n i) (next_lt n i li) t lt (omega arith))

    back_same : run_back n pt n r j ≡ a₀
    back_same = back_is n a₀ j l₀ lj c₀ (λ t lt h g. straight t lt h (omega arith)) (omega (arith, dist_lt n a₀ l₀ j lj))

    on_same : run_on n pt n r (next n j) ≡ a₁
    on_same =
        let ln = next_lt n j lj in
        let e = dist_suc n a₀ l₀ j lj (omega (arith, on, dist_lt n a₀ l₀ a₁ l₁)) in
        let z = dist_split n a₀ (next n j) a₁ l₀ ln l₁ (omega (arith, e, on)) in
        on_is n a₁ (next n j) l₁ ln c₁
        (λ t lt g. let y = dist_join n a₀ (next n j) t l₀ ln lt (omega (arith, dist_lt n a₀ l₀ a₁ l₁)) in straight t lt (omega arith) (omega arith))
        (omega (arith, dist_lt n (next n j) ln a₁ l₁))

    pub same_run : run_from n pt r j ≡ run_from n pt r i
    same_run = λ t. record { from = position n (back_same t); edges = dist n (back_same t) (on_same t) }
