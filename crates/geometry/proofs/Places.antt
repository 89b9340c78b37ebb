-- Where two segments have a place in common: from a place to the signs of four turns, and back. Then uncrossing, and the symmetries of a place.
use mathlib.Core.Path.{◌≡◌, sym, ◌∙◌}
use mathlib.Core.Logic.{⊎_elim, ◌≢◌}
use mathlib.Core.List.{List, [], ◌∷◌}
use native.Mathlib.Omega.{arith}
use lib.IntN.{ℤ, pos, negsuc, neg_ℤ, ◌+ℤ◌, ◌-ℤ◌, ◌*ℤ◌}
use lib.Signed.{◌≤ℤ◌, ◌<ℤ◌}
use Rattle.algebra.specs.Polynomials.{E, var, lit, ◌:+◌, ◌:-◌, ◌:*◌, neg, solve, lin, hyp, sub_zero}
use Rattle.algebra.specs.Order.{Sign, below, nul, above, sign, mul_nonneg, mul_pos, ≤ℤ-or-<, <ℤ-le}
use Rattle.algebra.specs.Signs.{flip, mul_mixed, mul_mixed', pos_le, neg_le, swap, no_zero, both_zero}
use Rattle.algebra.specs.Identities.{PairE, ident, follows, num, pair, ◌:=◌, ◌⇐◌}
use borrow.Author.Differences.{ints}
use Rattle.geometry.specs.Plane.{Point, turn}
use Rattle.geometry.specs.Segment.{CommonPlace, way}
use Rattle.geometry.proofs.Turns.{point_edge, turn_of_edge, A, B, C, D, pts, four}

-- the same as `way`, over expressions
abbrev pub way_of_edge : E → E → E → E → E
way_of_edge d t u v = d :* u :+ t :* (v :- u)

unfoldable pub meets_sym : {a₁ a₂ b₁ b₂ : Point} → CommonPlace a₁ a₂ b₁ b₂ → CommonPlace b₁ b₂ a₁ a₂
meets_sym m = record { d = m.d; s = m.t; t = m.s; d> = m.d>; s≥ = m.t≥; s≤ = m.t≤; t≥ = m.s≥; t≤ = m.s≤; at_x = sym m.at_x; at_y = sym m.at_y }

-- ---- a meeting's turns
pub mixed : {a₁ a₂ b₁ b₂ : Point} (m : CommonPlace a₁ a₂ b₁ b₂) → (m.d -ℤ m.t) *ℤ turn a₁ a₂ b₁ +ℤ m.t *ℤ turn a₁ a₂ b₂ ≡ pos 0
mixed {a₁} {a₂} {b₁} {b₂} m =
    lin ((var 8 :- var 10) :* turn_of_edge A B C :+ var 10 :* turn_of_edge A B D) (lit (pos 0))
    (a₁.x ∷ a₁.y ∷ a₂.x ∷ a₂.y ∷ b₁.x ∷ b₁.y ∷ b₂.x ∷ b₂.y ∷ m.d ∷ m.s ∷ m.t ∷ [])
    (hyp (neg (var 2 :- var 0)) (way_of_edge (var 8) (var 9) (var 1) (var 3)) (way_of_edge (var 8) (var 10) (var 5) (var 7))
    ∷ hyp (var 3 :- var 1) (way_of_edge (var 8) (var 9) (var 0) (var 2)) (way_of_edge (var 8) (var 10) (var 4) (var 6)) ∷ [])
    tt m.at_y m.at_x

apart : (d t p q : ℤ) → pos 0 <ℤ d → pos 0 ≤ℤ t → t ≤ℤ d → pos 0 <ℤ p → pos 0 <ℤ q → (d -ℤ t) *ℤ p +ℤ t *ℤ q ≡ pos 0 → ⊥
apart d t p q d> t≥ t≤ p> q> e = go (sign t)
  where
    u≥ : pos 0 ≤ℤ (d -ℤ t)
    u≥ = omega (arith, ints)

    go : Sign t → ⊥
    go (below h) = omega (arith, ints)
    go (above h) = omega (arith, ints, mul_pos h q>, mul_nonneg u≥ (<ℤ-le p>))
    go (nul h) = let u> : pos 0 <ℤ (d -ℤ t) = omega (arith, ints) in omega (arith, ints, mul_nonneg t≥ (<ℤ-le q>), mul_pos u> p>)

pub meets_not_above : {a₁ a₂ b₁ b₂ : Point} → CommonPlace a₁ a₂ b₁ b₂ → pos 0 <ℤ turn a₁ a₂ b₁ → pos 0 <ℤ turn a₁ a₂ b₂ → ⊥
meets_not_above {a₁} {a₂} {b₁} {b₂} m p> q> = apart m.d m.t (turn a₁ a₂ b₁) (turn a₁ a₂ b₂) m.d> m.t≥ m.t≤ p> q> (mixed m)

pub meets_not_below : {a₁ a₂ b₁ b₂ : Point} → CommonPlace a₁ a₂ b₁ b₂ → turn a₁ a₂ b₁ <ℤ pos 0 → turn a₁ a₂ b₂ <ℤ pos 0 → ⊥
meets_not_below {a₁} {a₂} {b₁} {b₂} m p< q< = apart m.d m.t (neg_ℤ (turn a₁ a₂ b₁)) (neg_ℤ (turn a₁ a₂ b₂)) m.d> m.t≥ m.t≤ (flip p<) (flip q<)
    (lin ((var 0 :- var 1) :* neg (var 2) :+ var 1 :* neg (var 3)) (lit (pos 0)) (m.d ∷ m.t ∷ turn a₁ a₂ b₁ ∷ turn a₁ a₂ b₂ ∷ [])
    (hyp (lit (negsuc 0)) ((var 0 :- var 1) :* var 2 :+ var 1 :* var 3) (lit (pos 0)) ∷ []) tt (mixed m))

-- so the product is at most 0
opposite : (p q : ℤ) → (pos 0 <ℤ p → pos 0 <ℤ q → ⊥) → (p <ℤ pos 0 → q <ℤ pos 0 → ⊥) → (p *ℤ q) ≤ℤ pos 0
opposite p q f g = ⊎_elim (λ h. h) (λ h. absurd (go h (sign p) (sign q))) (≤ℤ-or-< (p *ℤ q) (pos 0))
  where
    none : (z : ℤ) → pos 0 <ℤ z → z ≡ pos 0 → ⊥
    none z h e = omega (arith, ints)

    go : pos 0 <ℤ (p *ℤ q) → Sign p → Sign q → ⊥
    go h (above j) (above k) = f j k
    go h (below j) (below k) = g j k
    go h (nul j) k = none (p *ℤ q) h (lin (var 0 :* var 1) (lit (pos 0)) (p ∷ q ∷ []) (hyp (var 1) (var 0) (lit (pos 0)) ∷ []) tt j)
    go h (below j) (nul k) = none (p *ℤ q) h (lin (var 0 :* var 1) (lit (pos 0)) (p ∷ q ∷ []) (hyp (var 0) (var 1) (lit (pos 0)) ∷ []) tt k)
    go h (above j) (nul k) = none (p *ℤ q) h (lin (var 0 :* var 1) (lit (pos 0)) (p ∷ q ∷ []) (hyp (var 0) (var 1) (lit (pos 0)) ∷ []) tt k)
    go h (below j) (above k) = omega (arith, ints, mul_mixed' j k)
    go h (above j) (below k) = omega (arith, ints, mul_mixed j k)

pub meets_opposite : {a₁ a₂ b₁ b₂ : Point} → CommonPlace a₁ a₂ b₁ b₂ → (turn a₁ a₂ b₁ *ℤ turn a₁ a₂ b₂) ≤ℤ pos 0
meets_opposite {a₁} {a₂} {b₁} {b₂} m = opposite (turn a₁ a₂ b₁) (turn a₁ a₂ b₂) (meets_not_above m) (meets_not_below m)

-- ---- the converse: Cramer
module _ (a₁ a₂ b₁ b₂ : Point) where
  cramer_x : way (turn a₁ a₂ b₁ -ℤ turn a₁ a₂ b₂) (neg_ℤ (turn b₁ b₂ a₁)) a₁.x a₂.x ≡ way (turn a₁ a₂ b₁ -ℤ turn a₁ a₂ b₂) (turn a₁ a₂ b₁) b₁.x b₂.x
  cramer_x = solve (way_of_edge (turn_of_edge A B C :- turn_of_edge A B D) (neg (turn_of_edge C D A)) (var 0) (var 2)) (way_of_edge (turn_of_edge A B C :- turn_of_edge A B D) (turn_of_edge A B C) (var 4) (var 6)) (pts a₁ a₂ b₁ b₂) tt

  cramer_y : way (turn a₁ a₂ b₁ -ℤ turn a₁ a₂ b₂) (neg_ℤ (turn b₁ b₂ a₁)) a₁.y a₂.y ≡ way (turn a₁ a₂ b₁ -ℤ turn a₁ a₂ b₂) (turn a₁ a₂ b₁) b₁.y b₂.y
  cramer_y = solve (way_of_edge (turn_of_edge A B C :- turn_of_edge A B D) (neg (turn_of_edge C D A)) (var 1) (var 3)) (way_of_edge (turn_of_edge A B C :- turn_of_edge A B D) (turn_of_edge A B C) (var 5) (var 7)) (pts a₁ a₂ b₁ b₂) tt

split_signs : (p q : ℤ) → (p *ℤ q) ≤ℤ pos 0 → q <ℤ p → (pos 0 ≤ℤ p) × (q ≤ℤ pos 0)
split_signs p q h lt = go (sign p)
  where
    go : Sign p → (pos 0 ≤ℤ p) × (q ≤ℤ pos 0)
    go (above k) = (<ℤ-le k, pos_le k h)
    go (nul k) = (omega (arith, ints), omega (arith, ints))
    go (below k) = absurd (omega (arith, ints, neg_le k h))

module _ (a₁ a₂ b₁ b₂ : Point) (pq : (turn a₁ a₂ b₁ *ℤ turn a₁ a₂ b₂) ≤ℤ pos 0) (rs : (turn b₁ b₂ a₁ *ℤ turn b₁ b₂ a₂) ≤ℤ pos 0) where
  abbrev tp : ℤ
  tp = turn a₁ a₂ b₁

  abbrev tq : ℤ
  tq = turn a₁ a₂ b₂

  abbrev tr : ℤ
  tr = turn b₁ b₂ a₁

  abbrev ts : ℤ
  ts = turn b₁ b₂ a₂

  sum : tp +ℤ tr ≡ tq +ℤ ts
  sum = four a₁ a₂ b₁ b₂

  -- p above q
  down : tq <ℤ tp → CommonPlace a₁ a₂ b₁ b₂
  down lt =
      let k : (pos 0 ≤ℤ tp) × (tq ≤ℤ pos 0) = split_signs tp tq pq lt in
      let j : (pos 0 ≤ℤ ts) × (tr ≤ℤ pos 0) = split_signs ts tr (swap tr ts (λ z. z ≤ℤ pos 0) rs) (omega (arith, ints, sum)) in
      record {
        d = tp -ℤ tq;
        s = neg_ℤ tr;
        t = tp;
        d> = omega (arith, ints);
        s≥ = omega (arith, ints);
        s≤ = omega (arith, ints, sum);
        t≥ = k.0;
        t≤ = omega (arith, ints);
        at_x = cramer_x a₁ a₂ b₁ b₂;
        at_y = cramer_y a₁ a₂ b₁ b₂;
      }

  -- p below q: the same with every sign turned
  up : tp <ℤ tq → CommonPlace a₁ a₂ b₁ b₂
  up lt =
      let k : (pos 0 ≤ℤ tq) × (tp ≤ℤ pos 0) = split_signs tq tp (swap tp tq (λ z. z ≤ℤ pos 0) pq) lt in
      let j : (pos 0 ≤ℤ tr) × (ts ≤ℤ pos 0) = split_signs tr ts rs (omega (arith, ints, sum)) in
      record {
        d = tq -ℤ tp;
        s = tr;
        t = neg_ℤ tp;
        d> = omega (arith, ints);
        s≥ = j.0;
        s≤ = omega (arith, ints, sum);
        t≥ = omega (arith, ints);
        t≤ = omega (arith, ints);
        at_x = solve (way_of_edge (turn_of_edge A B D :- turn_of_edge A B C) (turn_of_edge C D A) (var 0) (var 2)) (way_of_edge (turn_of_edge A B D :- turn_of_edge A B C) (neg (turn_of_edge A B C)) (var 4) (var 6)) (pts a₁ a₂ b₁ b₂) tt;
        at_y = solve (way_of_edge (turn_of_edge A B D :- turn_of_edge A B C) (turn_of_edge C D A) (var 1) (var 3)) (way_of_edge (turn_of_edge A B D :- turn_of_edge A B C) (neg (turn_of_edge A B C)) (var 5) (var 7)) (pts a₁ a₂ b₁ b₂) tt;
      }

  pub meets_by_signs : tp ≢ tq → CommonPlace a₁ a₂ b₁ b₂
  meets_by_signs ne = ⊎_elim (λ h. up (omega (arith, ints))) (λ h. down h) (≤ℤ-or-< tp tq)

-- ---- collinear points
abbrev O : PairE
O = point_edge 8 9

-- line p₀ p₁ is A B, u v w are C D O
module _ (p₀ p₁ u v w : Point) where
  abbrev five : List ℤ
  five = p₀.x ∷ p₀.y ∷ p₁.x ∷ p₁.y ∷ u.x ∷ u.y ∷ v.x ∷ v.y ∷ w.x ∷ w.y ∷ []

  pub collinear_trans : turn p₀ p₁ u ≡ pos 0 → turn p₀ p₁ v ≡ pos 0 → u ≢ v → turn u v w ≡ pos 0 → turn p₀ p₁ w ≡ pos 0
  collinear_trans hu hv ne hw = ⊎_elim (λ ex. ⊎_elim (λ ey. absurd (ne (same (sub_zero v.x u.x ex) (sub_zero v.y u.y ey)))) (λ k. k) (no_zero (v.y -ℤ u.y) (turn p₀ p₁ w) by_y)) (λ k. k) (no_zero (v.x -ℤ u.x) (turn p₀ p₁ w) by_x)
    where
      same : v.x ≡ u.x → v.y ≡ u.y → u ≡ v
      same ex ey = λ i. record { x = sym ex i; y = sym ey i }

      by_x : (v.x -ℤ u.x) *ℤ turn p₀ p₁ w ≡ pos 0
      by_x = lin ((var 6 :- var 4) :* turn_of_edge A B O) (lit (pos 0)) five
          (hyp (var 6 :- var 8) (turn_of_edge A B C) (lit (pos 0)) ∷ hyp (var 8 :- var 4) (turn_of_edge A B D) (lit (pos 0)) ∷ hyp (var 2 :- var 0) (turn_of_edge C D O) (lit (pos 0)) ∷ []) tt hu hv hw

      by_y : (v.y -ℤ u.y) *ℤ turn p₀ p₁ w ≡ pos 0
      by_y = lin ((var 7 :- var 5) :* turn_of_edge A B O) (lit (pos 0)) five
          (hyp (var 7 :- var 9) (turn_of_edge A B C) (lit (pos 0)) ∷ hyp (var 9 :- var 5) (turn_of_edge A B D) (lit (pos 0)) ∷ hyp (var 3 :- var 1) (turn_of_edge C D O) (lit (pos 0)) ∷ []) tt hu hv hw

-- ---- uncrossing
-- the four points lie on one line
pub record OnLine (a a' b b' : Point) : Type 0 where
  pub p0 : turn a a' b ≡ pos 0
  pub q0 : turn a a' b' ≡ pos 0
  pub r0 : turn b b' a ≡ pos 0
  pub s0 : turn b b' a' ≡ pos 0

module _ (a a' b b' : Point) where
  last : turn a a' b ≡ pos 0 → turn a a' b' ≡ pos 0 → turn b b' a' ≡ pos 0 → turn b b' a ≡ pos 0
  last p q s = lin (var 2) (lit (pos 0)) (turn a a' b ∷ turn a a' b' ∷ turn b b' a ∷ turn b b' a' ∷ [])
      (hyp (lit (pos 1)) (var 0 :+ var 2) (var 1 :+ var 3) ∷ hyp (lit (negsuc 0)) (var 0) (lit (pos 0)) ∷ hyp (lit (pos 1)) (var 1) (lit (pos 0)) ∷ hyp (lit (pos 1)) (var 3) (lit (pos 0)) ∷ []) tt
      (four a a' b b') p q s

  last' : turn a a' b ≡ pos 0 → turn a a' b' ≡ pos 0 → turn b b' a ≡ pos 0 → turn b b' a' ≡ pos 0
  last' p q r = lin (var 3) (lit (pos 0)) (turn a a' b ∷ turn a a' b' ∷ turn b b' a ∷ turn b b' a' ∷ [])
      (hyp (lit (negsuc 0)) (var 0 :+ var 2) (var 1 :+ var 3) ∷ hyp (lit (pos 1)) (var 0) (lit (pos 0)) ∷ hyp (lit (negsuc 0)) (var 1) (lit (pos 0)) ∷ hyp (lit (pos 1)) (var 2) (lit (pos 0)) ∷ []) tt
      (four a a' b b') p q r

  pub uncross : CommonPlace a a' b b' → b ≢ a' → a ≢ b' → CommonPlace a b a' b' → OnLine a a' b b'
  uncross m ne ne' m' = ⊎_elim left right (both_zero (turn a a' b) (turn a a' b') (turn b b' a) (turn b b' a') (four a a' b b') (meets_opposite m) (meets_opposite (meets_sym m)) pr qs)
    where
      turned : {z w : ℤ} → w ≤ℤ pos 0 → w ≡ neg_ℤ z → pos 0 ≤ℤ z
      turned h e = omega (arith, ints)

      pr : pos 0 ≤ℤ (turn a a' b *ℤ turn b b' a)
      pr = turned (meets_opposite m') (solve (turn_of_edge A C B :* turn_of_edge A C D) (neg (turn_of_edge A B C :* turn_of_edge C D A)) (pts a a' b b') tt)

      qs : pos 0 ≤ℤ (turn a a' b' *ℤ turn b b' a')
      qs = turned (meets_opposite (meets_sym m')) (solve (turn_of_edge B D A :* turn_of_edge B D C) (neg (turn_of_edge A B D :* turn_of_edge C D B)) (pts a a' b b') tt)

      left : (turn a a' b ≡ pos 0) × (turn b b' a' ≡ pos 0) → OnLine a a' b b'
      left h =
          let q : turn a a' b' ≡ pos 0 = collinear_trans a a' b a' b' h.0 (solve (turn_of_edge A B B) (lit (pos 0)) (pts a a' b b') tt) ne
          (lin (turn_of_edge C B D) (lit (pos 0)) (pts a a' b b') (hyp (lit (negsuc 0)) (turn_of_edge C D B) (lit (pos 0)) ∷ []) tt h.1) in
          record { p0 = h.0; q0 = q; r0 = last h.0 q h.1; s0 = h.1 }

      right : (turn a a' b' ≡ pos 0) × (turn b b' a ≡ pos 0) → OnLine a a' b b'
      right h =
          let p : turn a a' b ≡ pos 0 = collinear_trans a a' a b' b (solve (turn_of_edge A B A) (lit (pos 0)) (pts a a' b b') tt) h.0 ne'
          (lin (turn_of_edge A D C) (lit (pos 0)) (pts a a' b b') (hyp (lit (negsuc 0)) (turn_of_edge C D A) (lit (pos 0)) ∷ []) tt h.1) in
          record { p0 = p; q0 = h.0; r0 = h.1; s0 = last' p h.0 h.1 }

-- ---- symmetries
abbrev pub mir : Point → Point
mir p = record { x = p.y; y = p.x }

unfoldable pub unmirror : {a₁ a₂ b₁ b₂ : Point} → CommonPlace (mir a₁) (mir a₂) (mir b₁) (mir b₂) → CommonPlace a₁ a₂ b₁ b₂
unmirror m = record { d = m.d; s = m.s; t = m.t; d> = m.d>; s≥ = m.s≥; s≤ = m.s≤; t≥ = m.t≥; t≤ = m.t≤; at_x = m.at_y; at_y = m.at_x }

pub way_rev : (d s a b : ℤ) → way d (d -ℤ s) b a ≡ way d s a b
way_rev = ident (num ∷ num ∷ num ∷ num ∷ []) (λ d s a b. way_of_edge d (d :- s) b a := way_of_edge d s a b) tt

unfoldable pub rev : {a₁ a₂ b₁ b₂ : Point} → CommonPlace a₁ a₂ b₁ b₂ → CommonPlace a₂ a₁ b₁ b₂
rev {a₁} {a₂} {b₁} {b₂} m = record {
  d = m.d;
  s = m.d -ℤ m.s;
  t = m.t;
  d> = m.d>;
  s≥ = omega (arith, ints, m.s≤);
  s≤ = omega (arith, ints, m.s≥);
  t≥ = m.t≥;
  t≤ = m.t≤;
  at_x = way_rev m.d m.s a₁.x a₂.x ∙ m.at_x;
  at_y = way_rev m.d m.s a₁.y a₂.y ∙ m.at_y;
}

pub turn_mir : (a b c : Point) → turn a b c ≡ pos 0 → turn (mir a) (mir b) (mir c) ≡ pos 0
turn_mir = follows (pair ∷ pair ∷ pair ∷ []) (λ a b c. (turn_of_edge (record { ex = a.ey; ey = a.ex }) (record { ex = b.ey; ey = b.ex }) (record { ex = c.ey; ey = c.ex }) := lit (pos 0)) ⇐ (hyp (lit (negsuc 0)) (turn_of_edge a b c) (lit (pos 0)) ∷ [])) tt
