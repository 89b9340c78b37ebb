-- The meeting test depends on neither segment's direction, nor on their order; nor do its parts.
use mathlib.Core.Path.{◌≡◌, refl, sym, ◌∙◌, ap}
use mathlib.Core.Bool.{Bool, true, false, not, ◌&&◌, ◌||◌, cond, or_comm, and_comm}
use mathlib.Core.Logic.{◌≢◌}
use Prim.Native.Nat.{zero, suc}
use native.Mathlib.Omega.{arith}
use lib.IntN.{ℤ, pos, negsuc, neg_ℤ}
use lib.Signed.{lt_z}
use borrow.Author.Tests.{lt-ltb, le-ltb, ne_eqb}
use borrow.Author.Differences.{ints}
use Rattle.geometry.proofs.Turns.{turn_swap}
use Rattle.geometry.specs.Plane.{Point, turn, is_zero, eq_int, eq_point, lt_point, min_point, max_point, collinear}
use Rattle.geometry.specs.Segment.{same_side, shared, parallel, meets}
use Rattle.geometry.proofs.Points.{eq_int_cases, zero_yes, zero_is, point_eq, not_below, lt_point_not, three, turn_first, turn_second}
use Rattle.algebra.specs.Cases.{and_left, and_right, both, true_or_false, same_test}

-- ---- the smaller and the greater
level : (a b : Point) → lt_point a b ≡ false → lt_point b a ≡ false → a ≡ b
level a b p q =
    both (not_below a b p)
    (λ h. both (not_below b a q) (λ g. absurd (omega (arith, ints))) (λ g. absurd (omega (arith, ints))))
    (λ h. both (not_below b a q) (λ g. absurd (omega (arith, ints))) (λ g. point_eq a b g.0 (omega (arith, ints))))

pub min_point_comm : (a b : Point) → min_point a b ≡ min_point b a
min_point_comm a b =
    both (true_or_false (lt_point a b))
    (λ s. both (true_or_false (lt_point b a)) (λ t. absurd (lt_point_not a b s t)) (λ t. rw (s, t)))
    (λ s. both (true_or_false (lt_point b a)) (λ t. rw (s, t)) (λ t. rw (s, t) (sym (level a b s t))))

pub max_point_comm : (a b : Point) → max_point a b ≡ max_point b a
max_point_comm a b =
    both (true_or_false (lt_point a b))
    (λ s. both (true_or_false (lt_point b a)) (λ t. absurd (lt_point_not a b s t)) (λ t. rw (s, t)))
    (λ s. both (true_or_false (lt_point b a)) (λ t. rw (s, t)) (λ t. rw (s, t) (level a b s t)))

-- ---- tests
or_swap : (a b c d : Bool) → ((a || b) || (c || d)) ≡ ((a || c) || (b || d))
or_swap true b true d = refl
or_swap true b false d = refl
or_swap false true true d = refl
or_swap false false true d = refl
or_swap false true false d = refl
or_swap false false false d = refl

zero_neg : (z : ℤ) → is_zero (neg_ℤ z) ≡ is_zero z
zero_neg (pos zero) = refl
zero_neg (pos (suc n)) = sym (ne_eqb (suc n) 0 (omega arith))
zero_neg (negsuc n) = ne_eqb (suc n) 0 (omega arith)

up_neg : (z : ℤ) → lt_z (pos 0) (neg_ℤ z) ≡ lt_z z (pos 0)
up_neg (pos zero) = refl
up_neg (pos (suc n)) = sym (le-ltb (suc n) 0 (omega arith))
up_neg (negsuc n) = lt-ltb 0 (suc n) (omega arith)

down_neg : (z : ℤ) → lt_z (neg_ℤ z) (pos 0) ≡ lt_z (pos 0) z
down_neg (pos zero) = refl
down_neg (pos (suc n)) = sym (lt-ltb 0 (suc n) (omega arith))
down_neg (negsuc n) = le-ltb (suc n) 0 (omega arith)

side_neg : (p q : ℤ) → same_side (neg_ℤ p) (neg_ℤ q) ≡ same_side p q
side_neg p q = rw (up_neg p, up_neg q, down_neg p, down_neg q) (or_comm (lt_z p (pos 0) && lt_z q (pos 0)) (lt_z (pos 0) p && lt_z (pos 0) q))

side_comm : (p q : ℤ) → same_side p q ≡ same_side q p
side_comm p q = rw (and_comm (lt_z (pos 0) p) (lt_z (pos 0) q), and_comm (lt_z p (pos 0)) (lt_z q (pos 0)))

eq_int_comm : (a b : ℤ) → eq_int a b ≡ eq_int b a
eq_int_comm a b = both (eq_int_cases a b)
    (λ h. both (eq_int_cases b a) (λ g. h.1 ∙ sym g.1) (λ g. absurd (g.0 (sym h.0))))
    (λ h. both (eq_int_cases b a) (λ g. absurd (h.0 (sym g.0))) (λ g. h.1 ∙ sym g.1))

eq_point_comm : (a b : Point) → eq_point a b ≡ eq_point b a
eq_point_comm a b = rw (eq_int_comm a.x b.x, eq_int_comm a.y b.y)

-- ---- the test, by its parts
abbrev pick : Bool → Bool → Bool → Bool → Bool → Bool
pick f o s p q = cond f o (not s && (not p && not q))

parts : {f f' o o' s s' p p' q q' : Bool} → f ≡ f' → o ≡ o' → s ≡ s' → p ≡ p' → q ≡ q' → pick f o s p q ≡ pick f' o' s' p' q'
parts a b c d e = λ i. pick (a i) (b i) (c i) (d i) (e i)

pub line_rev : (a a' c : Point) → collinear a' a c ≡ collinear a a' c
line_rev a a' c = ap is_zero (turn_swap a' a c) ∙ zero_neg (turn a a' c)

pub line_swap : (a a' b b' : Point) → a ≢ a' → b ≢ b' → parallel b b' a a' ≡ parallel a a' b b'
line_swap a a' b b' na nb = same_test (parallel b b' a a') (parallel a a' b b') (other b b' a a' nb) (other a a' b b' na)
  where
    other : (a a' b b' : Point) → a ≢ a' → parallel a a' b b' ≡ true → parallel b b' a a' ≡ true
    other a a' b b' na f =
        let p = zero_yes (turn a a' b) (and_left (collinear a a' b) (collinear a a' b') f) in
        let q = zero_yes (turn a a' b') (and_right (collinear a a' b) (collinear a a' b') f) in
        rw (zero_is (turn b b' a) (three a a' b b' a na p q (turn_first a a')), zero_is (turn b b' a') (three a a' b b' a' na p q (turn_second a a')))

module _ (a a' b b' : Point) where
  pub meets_rev : meets a' a b b' ≡ meets a a' b b'
  meets_rev = parts
      (λ i. line_rev a a' b i && line_rev a a' b' i)
      (λ i. lt_point (max_point (min_point_comm a' a i) (min_point b b')) (min_point (max_point_comm a' a i) (max_point b b')))
      (or_comm (eq_point a' b || eq_point a' b') (eq_point a b || eq_point a b'))
      ((λ i. same_side (turn_swap a' a b i) (turn_swap a' a b' i)) ∙ side_neg (turn a a' b) (turn a a' b'))
      (side_comm (turn b b' a') (turn b b' a))

  pub meets_rev₂ : meets a a' b' b ≡ meets a a' b b'
  meets_rev₂ = parts
      (and_comm (collinear a a' b') (collinear a a' b))
      (λ i. lt_point (max_point (min_point a a') (min_point_comm b' b i)) (min_point (max_point a a') (max_point_comm b' b i)))
      (λ i. or_comm (eq_point a b') (eq_point a b) i || or_comm (eq_point a' b') (eq_point a' b) i)
      (side_comm (turn a a' b') (turn a a' b))
      ((λ i. same_side (turn_swap b' b a i) (turn_swap b' b a' i)) ∙ side_neg (turn b b' a) (turn b b' a'))

  pub meets_swap : a ≢ a' → b ≢ b' → meets b b' a a' ≡ meets a a' b b'
  meets_swap na nb = parts
      (line_swap a a' b b' na nb)
      (λ i. lt_point (max_comm i) (min_comm i))
      (or_swap (eq_point b a) (eq_point b a') (eq_point b' a) (eq_point b' a') ∙ (λ i. (eq_point_comm b a i || eq_point_comm b' a i) || (eq_point_comm b a' i || eq_point_comm b' a' i)))
      (λ i. same_side (turn b b' a) (turn b b' a')) (λ i. same_side (turn a a' b) (turn a a' b'))
      ∙ ap (λ z. cond (collinear a a' b && collinear a a' b') (lt_point (max_point (min_point a a') (min_point b b')) (min_point (max_point a a') (max_point b b'))) (not (shared a a' b b') && z))
      (and_comm (not (same_side (turn b b' a) (turn b b' a'))) (not (same_side (turn a a' b) (turn a a' b'))))
    where
      max_comm : max_point (min_point b b') (min_point a a') ≡ max_point (min_point a a') (min_point b b')
      max_comm = max_point_comm (min_point b b') (min_point a a')

      min_comm : min_point (max_point b b') (max_point a a') ≡ min_point (max_point a a') (max_point b b')
      min_comm = min_point_comm (max_point b b') (max_point a a')
