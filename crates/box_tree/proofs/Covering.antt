-- A node's box holds the boxes of all its leaves, and so the root's those of all positions.
use Rattle.std.proofs.Common.{◌≡◌, ℕ, ◌+◌, ◌-◌, ◌/◌, ◌≤◌, ◌<◌, sym, ◌∙◌, ap, subst, arith}
use Rattle.std.proofs.lemmas.Int.{ints, clamps}
use Rattle.algebra.specs.Cases.{both, le_cases}
use Rattle.geometry.specs.Plane.{Point}
use Rattle.box_tree.specs.Boxes.{Bounds, Covers, unite}
use Rattle.box_tree.proofs.Growing.{by_halves, top, top_one, top_more}

-- a place in either of two boxes is in their union
unite_first : (a b : Bounds) (p : Point) → Covers a p → Covers (unite a b) p
unfolding unite
unite_first a b p h = record { left = omega (arith, ints, clamps, h.left); right = omega (arith, ints, clamps, h.right); low = omega (arith, ints, clamps, h.low); high = omega (arith, ints, clamps, h.high) }

unite_second : (a b : Bounds) (p : Point) → Covers b p → Covers (unite a b) p
unfolding unite
unite_second a b p h = record { left = omega (arith, ints, clamps, h.left); right = omega (arith, ints, clamps, h.right); low = omega (arith, ints, clamps, h.low); high = omega (arith, ints, clamps, h.high) }

pub top_covers : (f : ℕ → Bounds) (i k : ℕ) → 1 ≤ k → (j : ℕ) → i ≤ j → j < i + k → (p : Point) → Covers (f j) p → Covers (top f i k) p
top_covers f =
    by_halves (λ i k. (j : ℕ) → i ≤ j → j < i + k → (p : Point) → Covers (f j) p → Covers (top f i k) p)
    (λ i j l h p c. let e : j ≡ i = omega arith in subst (λ b. Covers b p) (ap f e ∙ sym (top_one f i)) c)
    (λ i k m first second j l h p c.
    subst (λ b. Covers b p) (sym (top_more f i k m))
    (both (le_cases (i + k / 2) j)
    (λ g. unite_second (top f i (k / 2)) (top f (i + k / 2) (k - k / 2)) p (second j g.0 (omega (arith, h)) p c))
    (λ g. unite_first (top f i (k / 2)) (top f (i + k / 2) (k - k / 2)) p (first j l g.0 p c))))
