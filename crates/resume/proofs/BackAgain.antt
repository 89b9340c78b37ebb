-- Saved right after it was taken up, an image comes back as it was: ages from 0 up to the count less one are their own ranks.
use mathlib.Core.Path.{◌≡◌, refl, ap}
use mathlib.Core.Bool.{true, not}
use mathlib.Core.List.{List, [], ◌∷◌, map}
use Prim.Native.Nat.{ℕ, zero, suc, ◌+◌, ◌-◌, ◌≤◌, ◌<◌}
use native.Mathlib.Omega.{arith}
use lib.Dec.{eqb, ltb}
use lib.ListN.{length}
use borrow.Author.Tests.{ltb-true, lt-ltb, le-ltb, eq-eqb}
use Rattle.algebra.specs.Cases.{both, true_or_false}
use Rattle.algebra.specs.Counting.{one, one_le, count_p, count_two, count_off, count_split, count_length, count_zero, count_at}
use Rattle.geometry.specs.Plane.{Point}
use Rattle.intersection_set.specs.Store.{Rec, no_rec}
use Rattle.intersection_set.specs.Numbered.{Ages}
use Rattle.resume.specs.Image.{Line, Image, rank, line_of, renumbered, saved, slotted, take_up}
use Rattle.resume.specs.AgesAside.{age_at}
use Rattle.resume.specs.Fit.{Fit}
use Rattle.resume.proofs.Renumbering.{slotted_length}
use Rattle.resume.proofs.Images.{fit_ages}

one_older : (k a : ℕ) → one (ltb k (suc a)) ≡ one (ltb k a) + one (eqb a k)
one_older k a = grind arith

module _ (d : List Rec) (p : ℕ) (ages : Ages d p) where
  rank_suc : (a : ℕ) → rank d (suc a) ≡ rank d a + count_p (λ r. eqb a r.age) d
  rank_suc a = count_two (λ r. ltb r.age (suc a)) (λ r. ltb r.age a) (λ r. eqb a r.age) (λ r. one_older r.age a) d

  one_most : (a : ℕ) → count_p (λ r. eqb a r.age) d ≤ 1
  one_most a = omega (arith, ages a, one_le (ltb a p) true (λ _. refl))

  rank_most : (a : ℕ) → rank d a ≤ a
  rank_most zero = omega (arith, count_off (λ r. ltb r.age 0) (λ r. le-ltb r.age 0 (omega arith)) d)
  rank_most (suc a) = omega (arith, rank_suc a, one_most a, rank_most a)

  rank_gap : (a j : ℕ) → rank d (a + j) ≤ rank d a + j
  rank_gap a zero = omega (arith, ap (rank d) (let z : a + 0 ≡ a = omega arith in z))
  rank_gap a (suc j) = omega (arith, ap (rank d) (let z : a + suc j ≡ suc (a + j) = omega arith in z), rank_suc (a + j), one_most (a + j), rank_gap a j)

  rank_all : ((k : ℕ) → k < length d → age_at d k < p) → rank d p ≡ length d
  rank_all below =
      omega (
        arith,
        count_length d,
        count_split (λ r. true) (λ r. ltb r.age p) d,
        count_zero (λ r. not (ltb r.age p)) d no_rec (λ k h. rw (lt-ltb (age_at d k) p (below k h))),
      )

  module _ (below : (k : ℕ) → k < length d → age_at d k < p) where
    -- no more records live than were pushed
    pub count_pushes : length d ≤ p
    count_pushes = omega (arith, rank_all below, rank_most p)

    -- where all ages below p are there, each is its own rank
    pub rank_own : length d ≡ p → (a : ℕ) → a ≤ p → rank d a ≡ a
    rank_own e a h = omega (arith, rank_most a, rank_gap a (p - a), rank_all below, ap (rank d) (let z : a + (p - a) ≡ p = omega arith in z))

-- each age is below the count
pub ages_below : (d : List Rec) (p : ℕ) → Ages d p → (k : ℕ) → k < length d → age_at d k < p
ages_below d p ages k h =
    both (true_or_false (ltb (age_at d k) p)) (ltb-true (age_at d k) p)
    (λ u. absurd (omega (arith, ages (age_at d k), ap one u, count_at (λ r. eqb (age_at d k) r.age) d k no_rec h (eq-eqb (age_at d k) (age_at d k) refl))))

lines_back : (D : List Rec) (k : ℕ) → ((a : ℕ) → a < k → rank D a ≡ a) → (i : ℕ) (ls : List Line) → ((j : ℕ) → j < length ls → age_at (slotted i ls) j < k)
    → map (line_of D) (slotted i ls) ≡ ls
lines_back D k own i [] below = refl
lines_back D k own i (l ∷ ls) below =
    λ x. record { e0 = l.e0; e1 = l.e1; age = own l.age (below 0 (omega arith)) x } ∷ lines_back D k own (suc i) ls (λ j h. below (suc j) (omega arith)) x

-- Saving what was taken up from a fit image gives back the image.
pub saved_taken_up : (n : ℕ) (pt : ℕ → Point) (m : Image) → Fit n pt m → saved (take_up m) ≡ m
saved_taken_up n pt m fit = λ x. record { ring = m.ring; lines = lines x }
  where
    ages : Ages (slotted 0 m.lines) (length m.lines)
    ages = fit_ages m.lines fit.ages

    below : (k : ℕ) → k < length (slotted 0 m.lines) → age_at (slotted 0 m.lines) k < length m.lines
    below = ages_below (slotted 0 m.lines) (length m.lines) ages

    own : (a : ℕ) → a < length m.lines → rank (slotted 0 m.lines) a ≡ a
    own a h = rank_own (slotted 0 m.lines) (length m.lines) ages below (slotted_length 0 m.lines) a (omega arith)

    lines : renumbered (slotted 0 m.lines) ≡ m.lines
    lines = lines_back (slotted 0 m.lines) (length m.lines) own 0 m.lines (λ j h. below j (omega (arith, slotted_length 0 m.lines)))
