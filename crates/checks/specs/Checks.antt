-- The checks of a call, as the code takes them: check 2 over the lent lengths, and the checks before and after that of the ring.
use Rattle.std.specs.Prelude.{◌≡◌, ℤ, Bool, false, not, ◌||◌, cond, List, [], ◌∷◌, ℕ, ◌-◌, ◌*◌, ◌≤◌, ltb, length}
use Rattle.std.proofs.Common.{Bor}
use Rattle.geometry.specs.Plane.{Point}
use Rattle.geometry.specs.declared.lent.Points.{Points}
use Rattle.polygon.specs.Ring.{each_once}
use Rattle.machine.specs.Answer.{in_range, none_alike}

-- one of the lengths is below size
abbrev pub any_below : ℕ → List ℕ → Bool
any_below size [] = false
any_below size (l ∷ ls) = ltb l size || any_below size ls

-- Check 2: x, y, ring or index has fewer than n entries, or one of the record buffers fewer than n×(n-1).
abbrev pub short : ℕ → List ℕ → List ℕ → Bool
short n of_points of_records = any_below n of_points || any_below (n * (n - 1)) of_records

-- checks 1, 2, 19 and 3: the first that fails, or 0; s: a buffer is too short, m: there are too many picks
abbrev pub early : ℕ → (ℕ → Point) → Bool → Bool → ℕ
early n pt s m = cond (ltb 256 n) 1 (cond s 2 (cond m 19 (cond (not (in_range n pt)) 3 0)))

-- these and check 4 of the ring r
abbrev pub first_four : ℕ → (ℕ → Point) → Bool → Bool → List ℕ → ℕ
first_four n pt s m r = cond (ltb 256 n) 1 (cond s 2 (cond m 19 (cond (not (in_range n pt)) 3 (cond (not (each_once n r)) 4 0))))

-- checks 5 and 6
abbrev pub late : ℕ → (ℕ → Point) → ℕ
late n pt = cond (not (none_alike n pt)) 5 (cond (ltb n 3) 6 0)

-- all these: 1, 2, 19, and 3 to 6
abbrev pub first_six : ℕ → (ℕ → Point) → Bool → Bool → List ℕ → ℕ
first_six n pt s m r =
    cond (ltb 256 n) 1 (cond s 2 (cond m 19 (cond (not (in_range n pt)) 3 (cond (not (each_once n r)) 4 (cond (not (none_alike n pt)) 5 (cond (ltb n 3) 6 0))))))

-- what a call gives that is lent points and a ring to be read: check 2 covers these, and there are no picks
pub record WithRing (n : ℕ) (x y : Bor (List ℤ)) (ring : List ℕ) (gn : ℕ) (gx gy : Bor (List ℤ)) (short many : Bool) : Type 0 where
  pub size : gn ≡ n
  pub in_x : gx ≡ x
  pub in_y : gy ≡ y
  pub lengths : n ≤ 256 → short ≡ any_below n (length x.now ∷ length y.now ∷ length ring ∷ [])
  pub no_picks : many ≡ false

-- the points of a call that passed: the first n of what is lent
abbrev pub Of : ℕ → Bor (List ℤ) → Bor (List ℤ) → Points → Type 0
Of n x y p = (p.n ≡ n) × (p.x ≡ x) × (p.y ≡ y)
