-- The test of what a segment contains decides document 01's words, for all segments, whatever the marks of their ends.
use mathlib.Core.Path.{◌≡◌, refl, sym, ◌∙◌, ap₂}
use mathlib.Core.Bool.{true, false, not, ◌&&◌}
use mathlib.Core.Logic.{◌⊎◌, inl, inr, ◌≢◌, ◌↔◌}
use Prim.Native.Nat.{ℕ}
use native.Mathlib.Omega.{arith}
use Rattle.algebra.specs.Cases.{both, true_or_false, never, not_true, and_left, and_right}
use Rattle.geometry.specs.Plane.{Point, turn, eq_point, lt_point, min_point, max_point, collinear}
use Rattle.geometry.specs.Segment.{End, exclusive, inclusive, NotAfter, Contains, admits, between, contains}
use Rattle.geometry.proofs.Points.{zero_yes, zero_is, points_differ, eq_point_true, below_is, is_below, lt_point_irrefl, lt_point_flip, lt_point_total, lt_le, le_lt}
use Rattle.geometry.proofs.Symmetry.{min_point_comm, max_point_comm}

-- ---- not after, as a test
not_after : (a p : Point) → lt_point p a ≡ false → NotAfter a p
not_after a p h =
    both (true_or_false (eq_point a p)) (λ e. inl (eq_point_true a p e))
    (λ e. both (lt_point_total a p (points_differ a p e)) (λ t. inr (below_is a p t)) (λ t. never (lt_point p a) t h))

is_not_after : (a p : Point) → NotAfter a p → lt_point p a ≡ false
is_not_after a p (inl e) = both (true_or_false (lt_point p a)) (λ t. absurd (lt_point_irrefl a (rw (sym e) at t))) (λ t. t)
is_not_after a p (inr h) = lt_point_flip a p (is_below a p h)

-- ---- between, in point order
between_if : (a b p : Point) → lt_point p a ≡ false → lt_point b p ≡ false → between a b p ≡ true
between_if a b p h k =
    both (true_or_false (lt_point a b))
    (λ t. rw (t, h, k))
    (λ t. let l : lt_point p b ≡ false = both (true_or_false (lt_point p b)) (λ s. never (lt_point a b) (le_lt a p b h s) t) (λ s. s) in
    let m : lt_point a p ≡ false = both (true_or_false (lt_point a p)) (λ s. never (lt_point a b) (lt_le a p b s k) t) (λ s. s) in
    rw (t, l, m))

between_sym : (a b p : Point) → between a b p ≡ between b a p
between_sym a b p = λ i. not (lt_point p (min_point_comm a b i)) && not (lt_point (max_point_comm a b i) p)

between_is : (a b p : Point) → between a b p ≡ true → (NotAfter a p × NotAfter p b) ⊎ (NotAfter b p × NotAfter p a)
between_is a b p h =
    let l = not_true (lt_point p (min_point a b)) (and_left (not (lt_point p (min_point a b))) (not (lt_point (max_point a b) p)) h) in
    let m = not_true (lt_point (max_point a b) p) (and_right (not (lt_point p (min_point a b))) (not (lt_point (max_point a b) p)) h) in
    both (true_or_false (lt_point a b))
    (λ t. inl (not_after a p (rw t at l), not_after p b (rw t at m)))
    (λ t. inr (not_after b p (rw t at l), not_after p a (rw t at m)))

-- ---- an end's mark
admits_is : (e : End) (a p : Point) → admits e a p ≡ true → e ≡ exclusive → p ≢ a
admits_is exclusive a p h f = points_differ p a (not_true (eq_point p a) h)
admits_is inclusive a p h f = let z : ◌≡◌ {A = ℕ} 0 1 = cc in absurd (omega arith)

is_admitted : (e : End) (a p : Point) → (e ≡ exclusive → p ≢ a) → admits e a p ≡ true
is_admitted exclusive a p h = both (true_or_false (eq_point p a)) (λ t. absurd (h refl (eq_point_true p a t))) (λ t. rw t)
is_admitted inclusive a p h = refl

-- THE SEGMENT: the test decides document 01's words
pub contains_decides : (a : Point) (ea : End) (b : Point) (eb : End) (p : Point) → (contains a ea b eb p ≡ true) ↔ Contains a ea b eb p
contains_decides a ea b eb p = (there, back)
  where
    there : contains a ea b eb p ≡ true → Contains a ea b eb p
    there h =
        let g = and_right (collinear a b p) (between a b p && (admits ea a p && admits eb b p)) h in
        let f = and_right (between a b p) (admits ea a p && admits eb b p) g in
        record {
          on_line = zero_yes (turn a b p) (and_left (collinear a b p) (between a b p && (admits ea a p && admits eb b p)) h);
          between = between_is a b p (and_left (between a b p) (admits ea a p && admits eb b p) g);
          not_first = admits_is ea a p (and_left (admits ea a p) (admits eb b p) f);
          not_second = admits_is eb b p (and_right (admits ea a p) (admits eb b p) f);
        }

    back : Contains a ea b eb p → contains a ea b eb p ≡ true
    back k =
        let l = both k.between
        (λ h. between_if a b p (is_not_after a p h.0) (is_not_after p b h.1))
        (λ h. between_sym a b p ∙ between_if b a p (is_not_after b p h.0) (is_not_after p a h.1)) in
        ap₂ ◌&&◌ (zero_is (turn a b p) k.on_line) (ap₂ ◌&&◌ l (ap₂ ◌&&◌ (is_admitted ea a p k.not_first) (is_admitted eb b p k.not_second)))
