-- Points by a number that orders them, and segments on one line by the order of their ends.
use mathlib.Core.Path.{◌≡◌, sym, ◌∙◌, ap, ap₂}
use mathlib.Core.Bool.{Bool, true, false, ◌&&◌, ◌||◌, or_comm, or-false, and-true}
use mathlib.Core.Logic.{◌⊎◌, ◌≢◌}
use Prim.Native.Nat.{◌+◌, ◌≤◌}
use native.Mathlib.Omega.{arith}
use lib.IntN.{ℤ, pos, negsuc}
use lib.Signed.{lt_z, ◌≤ℤ◌, ◌<ℤ◌}
use borrow.Author.Differences.{up, down, ints}
use Rattle.algebra.specs.Cases.{both, true_or_false, never, and_left, and_right}
use Rattle.geometry.specs.Plane.{Point, Before, near, lt_point, min_point, max_point}
use Rattle.geometry.specs.Segment.{overlap}
use Rattle.geometry.specs.Lent.{InRange, order_key}
use Rattle.geometry.proofs.Points.{lt_int_cases, below_is, lt_point_trans, lt_point_total, lt_point_flip, not_below, lt_le, le_lt}
use Rattle.geometry.proofs.Reading.{abs_near}

-- ---- the number
near_is : (z : ℤ) → near z ≡ true → (up z ≤ down z + 1000000000) × (down z ≤ up z + 1000000000)
near_is (pos n) e = omega (arith, abs_near (pos n) e)
near_is (negsuc n) e = omega (arith, abs_near (negsuc n) e)

module _ (a b : Point) (ha : InRange a) (hb : InRange b) where
  key_less : Before a b → order_key a <ℤ order_key b
  key_less h = both h (λ k. omega (arith, ints, near_is a.y ha.ny, near_is b.y hb.ny)) (λ k. omega (arith, ints))

  key_not : (b.x <ℤ a.x) ⊎ ((b.x ≡ a.x) × (b.y ≤ℤ a.y)) → order_key b ≤ℤ order_key a
  key_not h = both h (λ k. omega (arith, ints, near_is a.y ha.ny, near_is b.y hb.ny)) (λ k. omega (arith, ints))

  -- it orders as the points are ordered
  pub key_lt : lt_z (order_key a) (order_key b) ≡ lt_point a b
  key_lt =
      both (true_or_false (lt_point a b))
      (λ t. both (lt_int_cases (order_key a) (order_key b)) (λ h. h.1 ∙ sym t) (λ h. absurd (omega (arith, ints, key_less (below_is a b t)))))
      (λ f. both (lt_int_cases (order_key a) (order_key b)) (λ h. absurd (omega (arith, ints, key_not (not_below a b f)))) (λ h. h.1 ∙ sym f))

-- ---- segments on one line
not_round : (p q s : Point) → lt_point p s ≡ false → (lt_point p q && lt_point q s) ≡ false
not_round p q s f = both (true_or_false (lt_point p q && lt_point q s)) (λ h. never (lt_point p s) (lt_point_trans p q s (and_left (lt_point p q) (lt_point q s) h) (and_right (lt_point p q) (lt_point q s) h)) f) (λ h. h)

-- strictly between two points, in either direction
between_is : (a b v : Point) → ((lt_point a v && lt_point v b) || (lt_point b v && lt_point v a)) ≡ (lt_point (min_point a b) v && lt_point v (max_point a b))
between_is a b v =
    both (true_or_false (lt_point a b))
    (λ t. rw t (ap (λ (k : Bool). (lt_point a v && lt_point v b) || k) (not_round b v a (lt_point_flip a b t)) ∙ or-false (lt_point a v && lt_point v b)))
    (λ t. rw t (ap (λ (k : Bool). k || (lt_point b v && lt_point v a)) (not_round a v b t)))

-- the same by their numbers
pub between_by : (a b v : Point) → InRange a → InRange b → InRange v → {k l m : ℤ} {r : Bool} → k ≡ order_key a → l ≡ order_key b → m ≡ order_key v
    → r ≡ ((lt_z k m && lt_z m l) || (lt_z l m && lt_z m k)) → r ≡ (lt_point (min_point a b) v && lt_point v (max_point a b))
between_by a b v ha hb hv ea eb ev er =
    er ∙ (λ t. (lt_z (ea t) (ev t) && lt_z (ev t) (eb t)) || (lt_z (eb t) (ev t) && lt_z (ev t) (ea t)))
    ∙ (λ t. (key_lt a v ha hv t && key_lt v b hv hb t) || (key_lt b v hb hv t && key_lt v a hv ha t))
    ∙ between_is a b v

-- from l to h, and from c to d
in_order : (l h c d : Point) → lt_point l h ≡ true → lt_point c d ≡ true → lt_point (max_point l c) (min_point h d) ≡ ((lt_point l c || lt_point l d) && (lt_point c h || lt_point d h))
in_order l h c d lh cd =
    both (true_or_false (lt_point l c))
    (λ lc. both (true_or_false (lt_point h d)) (λ hd. rw (lc, hd, lt_point_flip h d hd) (sym (or-false (lt_point c h)))) (λ hd. rw (lc, hd, cd, lt_le c d h cd hd)))
    (λ lc. both (true_or_false (lt_point h d)) (λ hd. rw (lc, hd, lh, lt_point_trans l h d lh hd, le_lt c l h lc lh)) (λ hd. rw (lc, hd, le_lt c l h lc lh) (sym (and-true (lt_point l d)))))

-- from l to h, and between c and d in either direction
up_to : (l h c d : Point) → lt_point l h ≡ true → c ≢ d → lt_point (max_point l (min_point c d)) (min_point h (max_point c d)) ≡ ((lt_point l c || lt_point l d) && (lt_point c h || lt_point d h))
up_to l h c d lh n =
    both (lt_point_total c d n)
    (λ t. rw t (in_order l h c d lh t))
    (λ t. rw (lt_point_flip d c t) (in_order l h d c lh t ∙ ap₂ ◌&&◌ (or_comm (lt_point l d) (lt_point l c)) (or_comm (lt_point d h) (lt_point c h))))

-- two segments overlap where one of the second's ends is above the first's lesser end, and one below its greater end
pub overlap_is : (a b c d : Point) → a ≢ b → c ≢ d → overlap a b c d ≡ ((lt_point (min_point a b) c || lt_point (min_point a b) d) && (lt_point c (max_point a b) || lt_point d (max_point a b)))
overlap_is a b c d n m =
    both (lt_point_total a b n) (λ t. rw t (up_to a b c d t m)) (λ t. rw (lt_point_flip b a t) (up_to b a c d t m))
