-- Swapping two points at a time, from the ends of a stretch inward or from a point back, comes to reversed and joined.
use Rattle.std.proofs.lemmas.Grind.{elements}
use mathlib.Core.Path.{◌≡◌, sym, ◌∙◌, ap}
use mathlib.Core.Bool.{cond}
use mathlib.Core.List.{List}
use mathlib.Core.Logic.{◌≢◌}
use Prim.Native.Nat.{ℕ, suc, ◌≤◌, ◌<◌}
use native.Mathlib.Omega.{arith}
use lib.Dec.{eqb}
use lib.ListN.{length, set, length-set}
use lib.Seq.{ext_get_or}
use borrow.Author.Tests.{eq-eqb, ne_eqb}
use Rattle.polygon.specs.Ring.{next, prev, dist, at, swap, moved, flip, reversed, slide, joined}
use Rattle.algebra.specs.Cases.{both, le_cases, eq_cases}
use Rattle.polygon.proofs.Positions.{next_lt, prev_lt, next_prev, dist_self, dist_lt, dist_inj, dist_zero, dist_pred, flip_lt, flip_in, flip_out, slide_zero, slide_one, slide_in, slide_out}
use Rattle.polygon.proofs.RingEdges.{moved_at, moved_length}

-- a swap as a map on positions
abbrev pub trade : ℕ → ℕ → ℕ → ℕ
trade p q i = cond (eqb i p) q (cond (eqb i q) p i)

module _ (p q i : ℕ) where
  pub trade_first : i ≡ p → trade p q i ≡ q
  trade_first h = rw (eq-eqb i p h)

  pub trade_second : i ≡ q → trade p q i ≡ p
  trade_second h = grind arith

  pub trade_other : i ≢ p → i ≢ q → trade p q i ≡ i
  trade_other h g = rw (ne_eqb i p h, ne_eqb i q g)

pub swap_length : (r : List ℕ) (p q : ℕ) → length (swap r p q) ≡ length r
swap_length r p q = length-set (set r p (at r q)) q (at r p) ∙ length-set r p (at r q)

pub swap_at : (r : List ℕ) (p q i : ℕ) → p < length r → q < length r → at (swap r p q) i ≡ at r (trade p q i)
swap_at r p q i lp lq = grind (arith, elements)

-- two rings are equal by their points
pub moved_is : (n : ℕ) (f : ℕ → ℕ) (r s : List ℕ) → length s ≡ n → ((i : ℕ) → i < n → at s i ≡ at r (f i)) → s ≡ moved n f r
moved_is n f r s ls h = ext_get_or 0 s (moved n f r) (ls ∙ sym (moved_length n f r)) (λ i l. h i (omega arith) ∙ sym (moved_at n f r i (omega arith)))

-- ---- counted from the place behind p
module _ (n p : ℕ) (lp : p < n) where
  pub dist_behind : (i : ℕ) → i < n → 0 < dist n p i → suc (dist n (next n p) i) ≡ dist n p i
  dist_behind i l h = grind arith

  pub dist_behind_self : suc (dist n (next n p) p) ≡ n
  dist_behind_self = grind arith

-- ---- reversing, from the ends inward
module _ (n p q : ℕ) (lp : p < n) (lq : q < n) where
  abbrev D : ℕ → ℕ
  D = dist n p

  -- the last swap: at most one place is left between the two
  pub flip_last : 0 < D q → D q ≤ 2 → (i : ℕ) → i < n → trade p q i ≡ flip n p q i
  flip_last m m' i l = grind (arith, le_cases)

  -- a swap, and the stretch inside is left to turn
  pub flip_step : 1 < D q → (i : ℕ) → i < n → trade p q (flip n (next n p) (prev n q) i) ≡ flip n p q i
  flip_step m i l =
      let z = dist_self n p lp in
      let lp' = next_lt n p lp in
      let lq' = prev_lt n q lq in
      let f' = flip n (next n p) (prev n q) in
      let fl = flip_lt n p q lp lq i l in
      let fl' : f' i < n = flip_lt n (next n p) (prev n q) lp' lq' i l in
      let dq : suc (D (prev n q)) ≡ D q = dist_pred n p lp q lq (omega arith) in
      let dq' : suc (dist n (next n p) (prev n q)) ≡ D (prev n q) = dist_behind n p lp (prev n q) lq' (omega arith) in
      let dp' = dist_behind_self n p lp in
      let mn = dist_lt n p lp q lq in
      both (eq_cases (D i) 0)
      (λ g. let ip = dist_zero n p lp i l g.0 in
      let di = ap (λ j. suc (dist n (next n p) j)) ip in
      let e : f' i ≡ i = flip_out n (next n p) (prev n q) i (omega arith) in
      trade_first p q (f' i) (e ∙ ip) ∙ dist_inj n p lp q (flip n p q i) lq fl (omega (arith, flip_in n p q lp lq i (omega arith))))
      (λ g. let di : suc (dist n (next n p) i) ≡ D i = dist_behind n p lp i l (omega arith) in
      both (le_cases (D i) (D (prev n q)))
      (λ h.
      let e = flip_in n (next n p) (prev n q) lp' lq' i (omega arith) in
      let fi = flip_in n p q lp lq i (omega arith) in
      let o : D (f' i) ≢ 0 = λ x. (let y = ap (λ j. suc (dist n (next n p) j)) (dist_zero n p lp (f' i) fl' x) in omega arith) in
      let df : suc (dist n (next n p) (f' i)) ≡ D (f' i) = dist_behind n p lp (f' i) fl' (omega arith) in
      trade_other p q (f' i) (λ x. (let y = ap D x in omega arith)) (λ x. (let y = ap D x in omega arith)) ∙ dist_inj n p lp (f' i) (flip n p q i) fl' fl (omega arith))
      (λ h.
      let e : f' i ≡ i = flip_out n (next n p) (prev n q) i (omega arith) in
      both (eq_cases (D i) (D q))
      (λ k. trade_second p q (f' i) (e ∙ dist_inj n p lp i q l lq k.0) ∙ dist_inj n p lp p (flip n p q i) lp fl (omega (arith, flip_in n p q lp lq i (omega arith))))
      (λ k. ap (trade p q) e ∙ trade_other p q i (λ x. (let y = ap D x in omega arith)) (λ x. k.0 (ap D x)) ∙ sym (flip_out n p q i (omega arith)))))

module _ (n : ℕ) (r : List ℕ) (p q : ℕ) (lr : length r ≡ n) (lp : p < n) (lq : q < n) where
  pub reverse_last : 0 < dist n p q → dist n p q ≤ 2 → swap r p q ≡ reversed n r p q
  reverse_last m m' = moved_is n (flip n p q) r (swap r p q) (swap_length r p q ∙ lr) (λ i l. swap_at r p q i (omega arith) (omega arith) ∙ ap (at r) (flip_last n p q lp lq m m' i l))

  -- the loop's invariant: what is left to turn of the ring so far comes to the same ring
  pub reverse_step : 1 < dist n p q → reversed n (swap r p q) (next n p) (prev n q) ≡ reversed n r p q
  reverse_step m =
      moved_is n (flip n p q) r (reversed n (swap r p q) (next n p) (prev n q)) (moved_length n (flip n (next n p) (prev n q)) (swap r p q))
      (λ i l. moved_at n (flip n (next n p) (prev n q)) (swap r p q) i l ∙ swap_at r p q (flip n (next n p) (prev n q) i) (omega arith) (omega arith) ∙ ap (at r) (flip_step n p q lp lq m i l))

-- how the ends stand to each other after a swap
module _ (n p q : ℕ) (lp : p < n) (lq : q < n) (m : 1 < dist n p q) where
  pub dist_inward : suc (suc (dist n (next n p) (prev n q))) ≡ dist n p q
  dist_inward = grind arith

-- one is next p exactly when q is one step from p
pub step_one : (n p q : ℕ) → p < n → q < n → p ≢ q → next n p ≡ q → dist n p q ≡ 1
step_one n p q lp lq o e = grind arith

pub step_more : (n p q : ℕ) → p < n → q < n → p ≢ q → next n p ≢ q → 1 < dist n p q
step_more n p q lp lq o e = grind arith

-- ---- joining, from k back
module _ (n e k : ℕ) (le : e < n) (lk : k < n) where
  abbrev E : ℕ → ℕ
  E = dist n e

  pub slide_last : E k ≡ 1 → (i : ℕ) → i < n → i ≡ slide n e k i
  slide_last m i l = grind arith

  pub slide_step : 1 < E k → (i : ℕ) → i < n → trade (prev n k) k (slide n e (prev n k) i) ≡ slide n e k i
  slide_step m i l = grind (arith, prev_lt, dist_pred, trade_other, eq_cases, slide_zero, trade_first, slide_one, le_cases, slide_in, slide_out, dist_inj, trade_second)

module _ (n : ℕ) (r : List ℕ) (e k : ℕ) (lr : length r ≡ n) (le : e < n) (lk : k < n) where
  pub join_last : dist n e k ≡ 1 → r ≡ joined n r e k
  join_last m = moved_is n (slide n e k) r r lr (λ i l. ap (at r) (slide_last n e k le lk m i l))

  -- the loop's invariant
  pub join_step : 1 < dist n e k → joined n (swap r (prev n k) k) e (prev n k) ≡ joined n r e k
  join_step m =
      let lk' = prev_lt n k lk in
      moved_is n (slide n e k) r (joined n (swap r (prev n k) k) e (prev n k)) (moved_length n (slide n e (prev n k)) (swap r (prev n k) k))
      (λ i l. moved_at n (slide n e (prev n k)) (swap r (prev n k) k) i l ∙ swap_at r (prev n k) k (slide n e (prev n k) i) (omega arith) (omega arith) ∙ ap (at r) (slide_step n e k le lk m i l))

-- ---- the loops' invariants: to finish from here comes to the same ring
pub record Turning (n : ℕ) (r₀ : List ℕ) (p q : ℕ) (r : List ℕ) (a b : ℕ) : Type 0 where
  pub len : length r ≡ n
  pub la : a < n
  pub lb : b < n
  pub ab : a ≢ b
  pub same : reversed n r a b ≡ reversed n r₀ p q

module _ {n : ℕ} {r₀ : List ℕ} {p q : ℕ} {r : List ℕ} {a b : ℕ} (w : Turning n r₀ p q r a b) where
  pub turn_met : next n a ≡ b → swap r a b ≡ reversed n r₀ p q
  turn_met h = let m = step_one n a b w.la w.lb w.ab h in reverse_last n r a b w.len w.la w.lb (omega arith) (omega arith) ∙ w.same

  pub turn_met_back : next n a ≢ b → next n a ≡ prev n b → swap r a b ≡ reversed n r₀ p q
  turn_met_back o h =
      let m = step_more n a b w.la w.lb w.ab o in
      let d = dist_inward n a b w.la w.lb m in
      let z = ap (dist n (next n a)) h in
      reverse_last n r a b w.len w.la w.lb (omega arith) (omega (arith, dist_self n (next n a) (next_lt n a w.la))) ∙ w.same

  pub turn_goes : next n a ≢ b → next n a ≢ prev n b → Turning n r₀ p q (swap r a b) (next n a) (prev n b)
  turn_goes o h = record {
    len = swap_length r a b ∙ w.len;
    la = next_lt n a w.la;
    lb = prev_lt n b w.lb;
    ab = h;
    same = reverse_step n r a b w.len w.la w.lb (step_more n a b w.la w.lb w.ab o) ∙ w.same;
  }

pub record Joining (n : ℕ) (r₀ : List ℕ) (e k : ℕ) (r : List ℕ) (b : ℕ) : Type 0 where
  pub len : length r ≡ n
  pub le : e < n
  pub lb : b < n
  pub eb : e ≢ b
  pub same : joined n r e b ≡ joined n r₀ e k

module _ {n : ℕ} {r₀ : List ℕ} {e k : ℕ} {r : List ℕ} {b : ℕ} (w : Joining n r₀ e k r b) where
  pub join_met : prev n b ≡ e → r ≡ joined n r₀ e k
  join_met h = join_last n r e b w.len w.le w.lb (step_one n e b w.le w.lb w.eb (ap (next n) (sym h) ∙ next_prev n b w.lb)) ∙ w.same

  join_more : prev n b ≢ e → 1 < dist n e b
  join_more h = grind arith

  pub join_goes : prev n b ≢ e → Joining n r₀ e k (swap r (prev n b) b) (prev n b)
  join_goes h = record {
    len = swap_length r (prev n b) b ∙ w.len;
    le = w.le;
    lb = prev_lt n b w.lb;
    eb = λ x. h (sym x);
    same = join_step n r e b w.len w.le w.lb (join_more h) ∙ w.same;
  }

  pub join_falls : prev n b ≢ e → dist n e (prev n b) < dist n e b
  join_falls h = grind arith
