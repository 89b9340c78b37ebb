-- Micrometres to steps.
use Rattle.std.specs.Prelude.{◌≡◌, ℕ, suc, ◌+◌, ◌/◌, ◌≤◌, ℤ, pos, negsuc, neg_ℤ, nat_abs, ◌-ℤ◌, ◌*ℤ◌}

-- how far v is from ten times s
abbrev pub distance : ℤ → ℤ → ℕ
distance v s = nat_abs (v -ℤ pos 10 *ℤ s)

-- s is a nearest tenth part of v, and of two equally near the one farther from zero.
pub record Nearest (v s : ℤ) : Type 0 where
  pub nearest : (t : ℤ) → distance v s ≤ distance v t
  pub farther : (t : ℤ) → distance v t ≡ distance v s → nat_abs t ≤ nat_abs s

-- the tenth part of a number that is not negative, an exact half upward
abbrev pub tenth : ℕ → ℕ
tenth n = (n + 5) / 10

-- The number that Nearest describes, by computation (`Rounding` in proofs/ has that it is the one).
unfoldable pub steps : ℤ → ℤ
steps (pos n) = pos (tenth n)
steps (negsuc n) = neg_ℤ (pos (tenth (suc n)))
