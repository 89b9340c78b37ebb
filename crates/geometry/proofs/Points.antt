-- The tests of the plane as facts: zero, the order of points, strictly inside.
use mathlib.Core.Path.{◌≡◌, refl, sym, ap, subst}
use mathlib.Core.Bool.{Bool, true, false, ◌&&◌}
use mathlib.Core.List.{[], ◌∷◌}
use mathlib.Core.Logic.{◌⊎◌, inl, inr, ◌≢◌}
use lib.IntN.{ℤ, pos, negsuc, ◌-ℤ◌, ◌*ℤ◌}
use lib.Signed.{lt_z, ◌≤ℤ◌, ◌<ℤ◌}
use borrow.Author.Tests.{eqb-true, eq-eqb}
use borrow.Author.Differences.{ints}
use native.Mathlib.Omega.{arith}
use Rattle.algebra.specs.Polynomials.{lit, ◌:-◌, ◌:*◌, hyp, sub_zero}
use Rattle.algebra.specs.Identities.{ident, follows, pair, ◌:=◌, ◌⇐◌}
use Rattle.algebra.specs.Signs.{no_zero}
use Rattle.geometry.proofs.Turns.{turn_of_edge}
use Rattle.geometry.specs.Plane.{Point, turn, Before, is_zero, eq_int, eq_point, lt_point, min_point, max_point, collinear}
use Rattle.geometry.specs.Segment.{inside}
use Rattle.algebra.specs.Cases.{both, true_or_false, never, and_left, and_right}

-- ---- numbers
pub lt_int_cases : (a b : ℤ) → ((a <ℤ b) × (lt_z a b ≡ true)) ⊎ ((b ≤ℤ a) × (lt_z a b ≡ false))
lt_int_cases a b = both (true_or_false (lt_z a b)) (λ e. inl (omega (arith, ints), e)) (λ e. inr (omega (arith, ints), e))

pub eq_int_cases : (a b : ℤ) → ((a ≡ b) × (eq_int a b ≡ true)) ⊎ ((a ≢ b) × (eq_int a b ≡ false))
eq_int_cases a b = go (eq_int a b) refl
  where
    yes_eq : (a b : ℤ) → eq_int a b ≡ true → a ≡ b
    yes_eq (pos a) (pos b) e = ap pos (eqb-true a b e)
    yes_eq (pos a) (negsuc b) e = never false e refl
    yes_eq (negsuc a) (pos b) e = never false e refl
    yes_eq (negsuc a) (negsuc b) e = ap negsuc (eqb-true a b e)

    same : (a : ℤ) → eq_int a a ≡ true
    same (pos a) = eq-eqb a a refl
    same (negsuc a) = eq-eqb a a refl

    go : (t : Bool) → eq_int a b ≡ t → ((a ≡ b) × (eq_int a b ≡ true)) ⊎ ((a ≢ b) × (eq_int a b ≡ false))
    go true e = inl (yes_eq a b e, e)
    go false e = inr (λ z. never (eq_int a b) (subst (λ c. eq_int a c ≡ true) z (same a)) e, e)

pub zero_yes : (z : ℤ) → is_zero z ≡ true → z ≡ pos 0
zero_yes (pos n) e = ap pos (eqb-true n 0 e)
zero_yes (negsuc n) e = never false e refl

pub zero_is : (z : ℤ) → z ≡ pos 0 → is_zero z ≡ true
zero_is z e = rw e

-- ---- the order of points
pub point_eq : (a b : Point) → a.x ≡ b.x → a.y ≡ b.y → a ≡ b
point_eq a b p q = λ i. record { x = p i; y = q i }

pub eq_point_same : (a b : Point) → a ≡ b → eq_point a b ≡ true
eq_point_same a b e = both (eq_int_cases a.x b.x)
    (λ h. both (eq_int_cases a.y b.y) (λ g. rw (h.1, g.1)) (λ g. absurd (g.0 (ap (λ (p : Point). p.y) e))))
    (λ h. absurd (h.0 (ap (λ (p : Point). p.x) e)))

pub points_differ : (a b : Point) → eq_point a b ≡ false → a ≢ b
points_differ a b e f = never (eq_point a b) (eq_point_same a b f) e

pub eq_point_true : (a b : Point) → eq_point a b ≡ true → a ≡ b
eq_point_true a b t = both (eq_int_cases a.x b.x)
    (λ h. both (eq_int_cases a.y b.y) (λ g. point_eq a b h.0 g.0) (λ g. never (eq_point a b) t (rw (h.1, g.1))))
    (λ h. never (eq_point a b) t (rw h.1))

pub below_is : (a b : Point) → lt_point a b ≡ true → Before a b
below_is a b e =
    both (lt_int_cases a.x b.x)
    (λ h. inl h.0)
    (λ h. both (eq_int_cases a.x b.x)
    (λ g. both (lt_int_cases a.y b.y) (λ k. inr (g.0, k.0)) (λ k. never (lt_point a b) e (rw (h.1, g.1, k.1))))
    (λ g. never (lt_point a b) e (rw (h.1, g.1))))

pub is_below : (a b : Point) → Before a b → lt_point a b ≡ true
is_below a b h =
    both (lt_int_cases a.x b.x)
    (λ g. rw g.1)
    (λ g. both h (λ k. absurd (omega (arith, ints)))
    (λ k. both (eq_int_cases a.x b.x)
    (λ f. both (lt_int_cases a.y b.y) (λ m. rw (g.1, f.1, m.1)) (λ m. absurd (omega (arith, ints))))
    (λ f. absurd (f.0 k.0))))

pub lt_point_trans : (a b c : Point) → lt_point a b ≡ true → lt_point b c ≡ true → lt_point a c ≡ true
lt_point_trans a b c p q =
    is_below a c (both (below_is a b p)
    (λ h. both (below_is b c q) (λ g. inl (omega (arith, ints))) (λ g. inl (omega (arith, ints))))
    (λ h. both (below_is b c q) (λ g. inl (omega (arith, ints))) (λ g. inr (omega (arith, ints), omega (arith, ints)))))

pub lt_point_not : (a b : Point) → lt_point a b ≡ true → lt_point b a ≡ true → ⊥
lt_point_not a b p q = both (below_is a b p) (λ h. both (below_is b a q) (λ g. omega (arith, ints)) (λ g. omega (arith, ints))) (λ h. both (below_is b a q) (λ g. omega (arith, ints)) (λ g. omega (arith, ints)))

pub lt_point_irrefl : (a : Point) → lt_point a a ≡ true → ⊥
lt_point_irrefl a p = lt_point_not a a p p

pub lt_point_total : (a b : Point) → a ≢ b → (lt_point a b ≡ true) ⊎ (lt_point b a ≡ true)
lt_point_total a b ne =
    both (lt_int_cases a.x b.x) (λ h. inl (is_below a b (inl h.0)))
    (λ h. both (lt_int_cases b.x a.x) (λ g. inr (is_below b a (inl g.0)))
    (λ g. let e : a.x ≡ b.x = omega (arith, ints) in
    both (lt_int_cases a.y b.y) (λ k. inl (is_below a b (inr (e, k.0))))
    (λ k. both (lt_int_cases b.y a.y) (λ m. inr (is_below b a (inr (sym e, m.0)))) (λ m. absurd (ne (point_eq a b e (omega (arith, ints))))))))

pub lt_point_flip : (a b : Point) → lt_point a b ≡ true → lt_point b a ≡ false
lt_point_flip a b h = both (true_or_false (lt_point b a)) (λ g. absurd (lt_point_not a b h g)) (λ g. g)

-- ---- turns
pub turn_back : (a b c : Point) → turn a b c ≡ pos 0 → turn c b a ≡ pos 0
turn_back = follows (pair ∷ pair ∷ pair ∷ []) (λ a b c. (turn_of_edge c b a := lit (pos 0)) ⇐ (hyp (lit (negsuc 0)) (turn_of_edge a b c) (lit (pos 0)) ∷ [])) tt

pub turn_round_lem : (a b c : Point) → turn a b c ≡ pos 0 → turn a c b ≡ pos 0
turn_round_lem = follows (pair ∷ pair ∷ pair ∷ []) (λ a b c. (turn_of_edge a c b := lit (pos 0)) ⇐ (hyp (lit (negsuc 0)) (turn_of_edge a b c) (lit (pos 0)) ∷ [])) tt

pub turn_first : (a b : Point) → turn a b a ≡ pos 0
turn_first = ident (pair ∷ pair ∷ []) (λ a b. turn_of_edge a b a := lit (pos 0)) tt

pub turn_second : (a b : Point) → turn a b b ≡ pos 0
turn_second = ident (pair ∷ pair ∷ []) (λ a b. turn_of_edge a b b := lit (pos 0)) tt

-- three points of a line
pub three : (p q u v w : Point) → p ≢ q → turn p q u ≡ pos 0 → turn p q v ≡ pos 0 → turn p q w ≡ pos 0 → turn u v w ≡ pos 0
three p q u v w ne hu hv hw =
    both (no_zero (q.x -ℤ p.x) (turn u v w) (by_x p q u v w hu hv hw))
    (λ ex. both (no_zero (q.y -ℤ p.y) (turn u v w) (by_y p q u v w hu hv hw))
    (λ ey. absurd (ne (point_eq p q (sym (sub_zero q.x p.x ex)) (sym (sub_zero q.y p.y ey)))))
    (λ k. k))
    (λ k. k)
  where
    by_x : (p q u v w : Point) → turn p q u ≡ pos 0 → turn p q v ≡ pos 0 → turn p q w ≡ pos 0 → (q.x -ℤ p.x) *ℤ turn u v w ≡ pos 0
    by_x = follows (pair ∷ pair ∷ pair ∷ pair ∷ pair ∷ [])
        (λ p q u v w. ((q.ex :- p.ex) :* turn_of_edge u v w := lit (pos 0)) ⇐
        (hyp (w.ex :- v.ex) (turn_of_edge p q u) (lit (pos 0)) ∷ hyp (u.ex :- w.ex) (turn_of_edge p q v) (lit (pos 0)) ∷ hyp (v.ex :- u.ex) (turn_of_edge p q w) (lit (pos 0)) ∷ [])) tt

    by_y : (p q u v w : Point) → turn p q u ≡ pos 0 → turn p q v ≡ pos 0 → turn p q w ≡ pos 0 → (q.y -ℤ p.y) *ℤ turn u v w ≡ pos 0
    by_y = follows (pair ∷ pair ∷ pair ∷ pair ∷ pair ∷ [])
        (λ p q u v w. ((q.ey :- p.ey) :* turn_of_edge u v w := lit (pos 0)) ⇐
        (hyp (w.ey :- v.ey) (turn_of_edge p q u) (lit (pos 0)) ∷ hyp (u.ey :- w.ey) (turn_of_edge p q v) (lit (pos 0)) ∷ hyp (v.ey :- u.ey) (turn_of_edge p q w) (lit (pos 0)) ∷ [])) tt

-- ---- strictly inside
pub inside_if : (a b v : Point) → turn a b v ≡ pos 0 → ((lt_point a v ≡ true) × (lt_point v b ≡ true)) ⊎ ((lt_point b v ≡ true) × (lt_point v a ≡ true)) → inside a b v ≡ true
inside_if a b v z h =
    both h
    (λ g. rw (zero_is (turn a b v) z, lt_point_trans a v b g.0 g.1, g.0, g.1))
    (λ g. rw (zero_is (turn a b v) z, lt_point_flip b a (lt_point_trans b v a g.0 g.1), g.0, g.1))

pub inside_is : (a b v : Point) → inside a b v ≡ true → (turn a b v ≡ pos 0) × (((lt_point a v ≡ true) × (lt_point v b ≡ true)) ⊎ ((lt_point b v ≡ true) × (lt_point v a ≡ true)))
inside_is a b v h =
    let g = and_right (collinear a b v) (lt_point (min_point a b) v && lt_point v (max_point a b)) h in (
      zero_yes (turn a b v) (and_left (collinear a b v) (lt_point (min_point a b) v && lt_point v (max_point a b)) h),
      both (true_or_false (lt_point a b))
          (λ t. (let k : (lt_point a v && lt_point v b) ≡ true = rw t at g in inl (and_left (lt_point a v) (lt_point v b) k, and_right (lt_point a v) (lt_point v b) k)))
          (λ t. (let k : (lt_point b v && lt_point v a) ≡ true = rw t at g in inr (and_left (lt_point b v) (lt_point v a) k, and_right (lt_point b v) (lt_point v a) k))),
    )

-- ---- the greater of the lower ends is below the lesser of the upper ends
pub not_below : (a b : Point) → lt_point a b ≡ false → (b.x <ℤ a.x) ⊎ ((b.x ≡ a.x) × (b.y ≤ℤ a.y))
not_below a b e =
    both (lt_int_cases a.x b.x)
    (λ h. never (lt_point a b) (is_below a b (inl h.0)) e)
    (λ h. both (lt_int_cases b.x a.x) (λ g. inl g.0)
    (λ g. let q : a.x ≡ b.x = omega (arith, ints) in
    both (lt_int_cases a.y b.y) (λ k. never (lt_point a b) (is_below a b (inr (q, k.0))) e) (λ k. inr (sym q, k.0))))

pub lt_le : (a b c : Point) → lt_point a b ≡ true → lt_point c b ≡ false → lt_point a c ≡ true
lt_le a b c p q =
    is_below a c (both (below_is a b p)
    (λ h. both (not_below c b q) (λ g. inl (omega (arith, ints))) (λ g. inl (omega (arith, ints))))
    (λ h. both (not_below c b q) (λ g. inl (omega (arith, ints))) (λ g. inr (omega (arith, ints), omega (arith, ints)))))

pub le_lt : (a b c : Point) → lt_point b a ≡ false → lt_point b c ≡ true → lt_point a c ≡ true
le_lt a b c p q =
    is_below a c (both (not_below b a p)
    (λ h. both (below_is b c q) (λ g. inl (omega (arith, ints))) (λ g. inl (omega (arith, ints))))
    (λ h. both (below_is b c q) (λ g. inl (omega (arith, ints))) (λ g. inr (omega (arith, ints), omega (arith, ints)))))

pub max_min : (a b c d : Point) → lt_point (max_point a b) (min_point c d) ≡ true → (lt_point a d ≡ true) × (lt_point b c ≡ true)
max_min a b c d h =
    both (true_or_false (lt_point a b))
    (λ s. both (true_or_false (lt_point c d))
    (λ t. (let g : lt_point b c ≡ true = rw (s, t) at h in (lt_point_trans a b d s (lt_point_trans b c d g t), g)))
    (λ t. (let g : lt_point b d ≡ true = rw (s, t) at h in (lt_point_trans a b d s g, lt_le b d c g t))))
    (λ s. both (true_or_false (lt_point c d))
    (λ t. (let g : lt_point a c ≡ true = rw (s, t) at h in (lt_point_trans a c d g t, le_lt b a c s g)))
    (λ t. (let g : lt_point a d ≡ true = rw (s, t) at h in (g, lt_le b d c (le_lt b a d s g) t))))
