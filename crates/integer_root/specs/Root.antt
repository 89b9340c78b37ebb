-- The integer root of a whole number.
use Rattle.std.specs.Prelude.{cond, ℕ, zero, suc, ◌+◌, ◌*◌, ◌/◌, ◌≤◌, ◌<◌, leb}

-- f is the greatest whole number with f×f at most v.
pub record Root (v f : ℕ) : Type 0 where
  pub low : f * f ≤ v
  pub high : v < (f + 1) * (f + 1)

-- r, or one more where its square is at most v
abbrev pub or_more : (r v : ℕ) → ℕ
or_more r v = cond (leb ((r + 1) * (r + 1)) v) (r + 1) r

-- Twice the root of v's fourth part, or one more. k bounds the steps.
unfoldable pub root_to : (k v : ℕ) → ℕ
root_to zero v = 0
root_to (suc k) zero = 0
root_to (suc k) (suc v) = or_more (2 * root_to k (suc v / 4)) (suc v)

-- The number that Root describes, by computation: a fourth part is less, so v steps are enough.
unfoldable pub root : ℕ → ℕ
root v = root_to v v
