-- Picks drawn from a seed.
use Rattle.std.specs.Prelude.{ℕ, zero, suc, ◌+◌, ◌*◌, ◌/◌, ◌%◌, ◌^◌}

-- one step of the generator
abbrev pub next_state : ℕ → ℕ
next_state s = (s * 1664525 + 1013904223) % 2 ^ 32

-- after k steps from a seed
unfoldable pub state : ℕ → ℕ → ℕ
state seed zero = seed
state seed (suc k) = next_state (state seed k)

-- a 32-bit word rotated right by 16
abbrev pub rotated : ℕ → ℕ
rotated s = s / 65536 + s % 65536 * 65536

-- the pick with number i
abbrev pub drawn : ℕ → ℕ → ℕ
drawn seed i = rotated (state seed (i + 1))
