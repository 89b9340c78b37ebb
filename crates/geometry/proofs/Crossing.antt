-- Two segments that meet and are not on one line: they have four different ends, and the two segments that uncross them do not meet.
use mathlib.Core.Path.{◌≡◌, sym, ◌∙◌}
use mathlib.Core.Bool.{true, false, not, ◌&&◌, ◌||◌}
use mathlib.Core.List.{[], ◌∷◌}
use mathlib.Core.Logic.{◌≢◌}
use lib.IntN.{ℤ, pos, ◌*ℤ◌}
use lib.Signed.{◌≤ℤ◌, ◌<ℤ◌}
use borrow.Author.Differences.{ints}
use native.Mathlib.Omega.{arith}
use Rattle.algebra.specs.Polynomials.{lit, ◌:*◌, hyp}
use Rattle.algebra.specs.Identities.{follows, num, ◌:=◌, ◌⇐◌}
use Rattle.algebra.specs.Order.{Sign, below, nul, above, sign, <ℤ-le}
use Rattle.algebra.specs.Signs.{mul_mixed, mul_mixed'}
use Rattle.geometry.proofs.Places.{meets_by_signs, uncross}
use Rattle.geometry.specs.Plane.{Point, turn, eq_point, collinear}
use Rattle.geometry.specs.Segment.{CommonPlace, same_side, shared, meets}
use Rattle.geometry.proofs.Points.{points_differ, zero_yes, zero_is, turn_round_lem, turn_first, three}
use Rattle.algebra.specs.Cases.{and_left, and_right, both, true_or_false, never, not_true, or_parts}

-- ---- not on one side
up_up : (p q : ℤ) → pos 0 <ℤ p → pos 0 <ℤ q → same_side p q ≡ true
up_up p q h k = grind (arith, ints)

down_down : (p q : ℤ) → p <ℤ pos 0 → q <ℤ pos 0 → same_side p q ≡ true
down_down p q h k = grind (arith, ints)

by_zero : (p q : ℤ) → p ≡ pos 0 → p *ℤ q ≡ pos 0
by_zero = follows (num ∷ num ∷ []) (λ p q. (p :* q := lit (pos 0)) ⇐ (hyp q p (lit (pos 0)) ∷ [])) tt

by_zero' : (p q : ℤ) → q ≡ pos 0 → p *ℤ q ≡ pos 0
by_zero' = follows (num ∷ num ∷ []) (λ p q. (p :* q := lit (pos 0)) ⇐ (hyp p q (lit (pos 0)) ∷ [])) tt

apart_le : (p q : ℤ) → same_side p q ≡ false → (p *ℤ q) ≤ℤ pos 0
apart_le p q e = go (sign p) (sign q)
  where
    zero-le : (z : ℤ) → z ≡ pos 0 → z ≤ℤ pos 0
    zero-le z e = omega (arith, ints)

    go : Sign p → Sign q → (p *ℤ q) ≤ℤ pos 0
    go (above h) (above k) = never (same_side p q) (up_up p q h k) e
    go (below h) (below k) = never (same_side p q) (down_down p q h k) e
    go (nul h) k = zero-le _ (by_zero p q h)
    go (above h) (nul k) = zero-le _ (by_zero' p q k)
    go (below h) (nul k) = zero-le _ (by_zero' p q k)
    go (above h) (below k) = <ℤ-le (mul_mixed h k)
    go (below h) (above k) = <ℤ-le (mul_mixed' h k)

apart_zero : (p q : ℤ) → same_side p q ≡ false → p ≡ q → p ≡ pos 0
apart_zero p q e f = go (sign p)
  where
    go : Sign p → p ≡ pos 0
    go (nul h) = h
    go (above h) = never (same_side p q) (up_up p q h (rw f at h)) e
    go (below h) = never (same_side p q) (down_down p q h (rw f at h)) e

-- ---- two segments that meet, not on one line
module _ (a a' b b' : Point) (nf : (collinear a a' b && collinear a a' b') ≡ false) (m : meets a a' b b' ≡ true) where
  parts : (not (shared a a' b b') && (not (same_side (turn a a' b) (turn a a' b')) && not (same_side (turn b b' a) (turn b b' a')))) ≡ true
  parts = rw nf at m

  sides : (not (same_side (turn a a' b) (turn a a' b')) && not (same_side (turn b b' a) (turn b b' a'))) ≡ true
  sides = and_right (not (shared a a' b b')) _ parts

  pub crossing : CommonPlace a a' b b'
  crossing =
      let p = not_true _ (and_left (not (same_side (turn a a' b) (turn a a' b'))) _ sides) in
      let q = not_true _ (and_right (not (same_side (turn a a' b) (turn a a' b'))) _ sides) in
      meets_by_signs a a' b b' (apart_le (turn a a' b) (turn a a' b') p) (apart_le (turn b b' a) (turn b b' a') q)
      (λ e. (let z = apart_zero (turn a a' b) (turn a a' b') p e in never (collinear a a' b && collinear a a' b') (rw (zero_is (turn a a' b) z, zero_is (turn a a' b') (sym e ∙ z))) nf))

  no_share : shared a a' b b' ≡ false
  no_share = not_true (shared a a' b b') (and_left (not (shared a a' b b')) _ parts)

  pub a_b : a ≢ b
  a_b = points_differ a b (or_parts (eq_point a b) (eq_point a b') (or_parts (eq_point a b || eq_point a b') (eq_point a' b || eq_point a' b') no_share).0).0

  pub a_b' : a ≢ b'
  a_b' = points_differ a b' (or_parts (eq_point a b) (eq_point a b') (or_parts (eq_point a b || eq_point a b') (eq_point a' b || eq_point a' b') no_share).0).1

  pub a'_b : a' ≢ b
  a'_b = points_differ a' b (or_parts (eq_point a' b) (eq_point a' b') (or_parts (eq_point a b || eq_point a b') (eq_point a' b || eq_point a' b') no_share).1).0

  pub a'_b' : a' ≢ b'
  a'_b' = points_differ a' b' (or_parts (eq_point a' b) (eq_point a' b') (or_parts (eq_point a b || eq_point a b') (eq_point a' b || eq_point a' b') no_share).1).1

-- the two edges laid do not meet
pub laid_apart : (a a' b b' : Point) → (collinear a a' b && collinear a a' b') ≡ false → meets a a' b b' ≡ true → meets a b a' b' ≡ false
laid_apart a a' b b' nf m = both (true_or_false (meets a b a' b')) (λ k. absurd (go k)) (λ k. k)
  where
    on_line : turn a a' b ≡ pos 0 → turn a a' b' ≡ pos 0 → ⊥
    on_line p q = never (collinear a a' b && collinear a a' b') (rw (zero_is (turn a a' b) p, zero_is (turn a a' b') q)) nf

    go : meets a b a' b' ≡ true → ⊥
    go k =
        both (true_or_false (collinear a b a' && collinear a b b'))
        (λ f. let p = zero_yes (turn a b a') (and_left (collinear a b a') (collinear a b b') f) in
        let q = zero_yes (turn a b b') (and_right (collinear a b a') (collinear a b b') f) in
        on_line (turn_round_lem a b a' p) (three a b a a' b' (a_b a a' b b' nf m) (turn_first a b) p q))
        (λ f. let o = uncross a a' b b' (crossing a a' b b' nf m) (λ e. a'_b a a' b b' nf m (sym e)) (a_b' a a' b b' nf m) (crossing a b a' b' f k) in
        on_line o.p0 o.q0)
