-- Which boxes of a ring's edges a move leaves as they are.
use mathlib.Core.Path.{◌≡◌, refl, sym, ◌∙◌, ap, ap₂}
use mathlib.Core.List.{List}
use mathlib.Core.Logic.{◌≢◌}
use Prim.Native.Nat.{ℕ, suc, ◌<◌}
use native.Mathlib.Omega.{arith}
use Rattle.algebra.specs.Cases.{both, le_cases}
use Rattle.geometry.specs.Plane.{Point}
use Rattle.polygon.specs.Ring.{next, dist, at, flip, slide, moved, reversed, joined}
use Rattle.polygon.specs.Change.{Plan, stay, uncross, hoist, turned, Fits}
use Rattle.polygon.proofs.Positions.{next_lt, dist_lt, dist_suc, dist_wrap, flip_out, slide_zero, slide_out}
use Rattle.polygon.proofs.RingEdges.{moved_at}
use Rattle.box_tree.specs.Boxes.{span}
use Rattle.box_tree.specs.Tree.{box_at}
use Rattle.box_tree.specs.Within.{SameBut}

-- from where on a plan changes the edges; to stay changes none, and counts as position 0
abbrev pub first_changed : Plan → ℕ
first_changed stay = 0
first_changed (uncross a b) = a
first_changed (hoist k p) = p

-- and to where
abbrev pub last_changed : Plan → ℕ
last_changed stay = 0
last_changed (uncross a b) = b
last_changed (hoist k p) = k

module _ (n : ℕ) (l : 0 < n) where
  pub first_changed_lt : (m : Plan) → Fits n m → first_changed m < n
  first_changed_lt stay w = l
  first_changed_lt (uncross a b) w = w.la
  first_changed_lt (hoist k p) w = w.lp

  pub last_changed_lt : (m : Plan) → Fits n m → last_changed m < n
  last_changed_lt stay w = l
  last_changed_lt (uncross a b) w = w.lb
  last_changed_lt (hoist k p) w = w.lk

-- different positions are some way apart
apart : (n p q : ℕ) → p < n → q < n → p ≢ q → 0 < dist n p q
apart n p q lp lq d = grind arith

module _ (n : ℕ) (pt : ℕ → Point) (r : List ℕ) where
  -- an edge whose ends both stay keeps its box
  moved_box : (f : ℕ → ℕ) (j : ℕ) → j < n → f j ≡ j → f (next n j) ≡ next n j → box_at n pt r j ≡ box_at n pt (moved n f r) j
  unfolding box_at
  moved_box f j l e e' = sym (ap₂ span (ap pt (moved_at n f r j l ∙ ap (at r) e)) (ap pt (moved_at n f r (next n j) (next_lt n j l) ∙ ap (at r) e')))

  -- An uncrossing of the edges at a and b leaves those that are not from a on to b.
  uncrossed_same : (a b : ℕ) → a < n → b < n → a ≢ b → SameBut n a b (box_at n pt r) (box_at n pt (reversed n r (next n a) b))
  uncrossed_same a b la lb d j l h =
      moved_box (flip n (next n a) b) j l (flip_out n (next n a) b j (grind arith)) (flip_out n (next n a) b (next n j) (grind arith))

  -- A join of the point at k behind e leaves those that are not from e on to k.
  joined_same : (e k : ℕ) → e < n → k < n → e ≢ k → SameBut n e k (box_at n pt r) (box_at n pt (joined n r e k))
  joined_same e k le lk d j l h =
      let far = apart n e k le lk d in
      moved_box (slide n e k) j l
      (slide_out n e k j (omega arith) h)
      (both (le_cases (suc (suc (dist n e j))) n)
      (λ g. let s = dist_suc n e le j l g.0 in slide_out n e k (next n j) (omega arith) (omega arith))
      (λ g. slide_zero n e k (next n j) (dist_wrap n e le j l (omega (arith, g.0, dist_lt n e le j l)))))

-- A MOVE LEAVES THE BOXES THAT ARE NOT FROM THE FIRST CHANGED ON TO THE LAST.
pub turned_same : (n : ℕ) (pt : ℕ → Point) (m : Plan) (r : List ℕ) → Fits n m →
    SameBut n (first_changed m) (last_changed m) (box_at n pt r) (box_at n pt (turned n m r))
turned_same n pt stay r w = λ j l h. refl
turned_same n pt (uncross a b) r w = uncrossed_same n pt r a b w.la w.lb w.ab
turned_same n pt (hoist k p) r w = joined_same n pt r p k w.lp w.lk (λ e. w.kp (sym e))
