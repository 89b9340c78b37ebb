-- The least of the points of a ring, one position after the other.
use mathlib.Core.Path.{◌≡◌, sym, ◌∙◌, ap}
use mathlib.Core.Bool.{Bool, true, false, cond}
use mathlib.Core.List.{List}
use Prim.Native.Nat.{ℕ, zero, suc, ◌+◌, ◌-◌, ◌<◌}
use native.Mathlib.Omega.{arith}
use Rattle.geometry.specs.Plane.{Point, lt_point}
use Rattle.polygon.specs.Ring.{at}
use Rattle.machine.specs.Answer.{least_to}
use Rattle.checks.specs.Least.{lesser_at}

pick_lt : (t : Bool) (i j n : ℕ) → i < n → j < n → cond t i j < n
pick_lt true i j n h k = h
pick_lt false i j n h k = k

module _ (n : ℕ) (pt : ℕ → Point) (r : List ℕ) where
  pub least_more : (i j : ℕ) → 0 < i → j ≡ least_to n pt r (i - 1) → lesser_at pt r i j ≡ least_to n pt r (i + 1 - 1)
  least_more zero j h e = absurd (omega arith)
  least_more (suc i) j h e =
      ap (lesser_at pt r (suc i)) (e ∙ ap (least_to n pt r) (let z : suc i - 1 ≡ i = omega arith in z))
      ∙ sym (ap (least_to n pt r) (let z : suc i + 1 - 1 ≡ suc i = omega arith in z))

  pub least_lt : (k : ℕ) → k < n → least_to n pt r k < n
  least_lt zero h = h
  least_lt (suc k) h = pick_lt (lt_point (pt (at r (suc k))) (pt (at r (least_to n pt r k)))) (suc k) (least_to n pt r k) n h (least_lt k (omega arith))
