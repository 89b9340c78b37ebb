-- Linear arithmetic over ℤ by `omega`, with a set of rules that carry hypotheses and goals of ℤ's order into ℕ: `omega zarith`.
-- A variable x counts as the two naturals P x and N x. A sum, a difference or a negation in a statement is opened by a fact listed with its
-- arguments: `add a b`, `sub a b`, `opp a`. A product is an unknown.
use Rattle.std.specs.Prelude.{◌≡◌, ◌+◌, ◌≤◌, ◌<◌, ℤ, neg_ℤ, ◌+ℤ◌, ◌-ℤ◌, ◌≤ℤ◌, ◌<ℤ◌}
use Rattle.std.proofs.Common.{ap, arith}
use Rattle.algebra.specs.Integers.{P, N, is_self, is_eq, is_add, is_neg}
use Rattle.algebra.specs.Order.{le_down, le_up, lt_down, lt_up}

pub eq_down : (a b : ℤ) → a ≡ b → P a + N b ≡ P b + N a
eq_down a b e = omega (arith, ap P e, ap N e)

pub eq_up : (a b : ℤ) → P a + N b ≡ P b + N a → a ≡ b
eq_up a b h = is_eq (is_self a) (is_self b) h

pub add : (a b : ℤ) → P (a +ℤ b) + (N a + N b) ≡ N (a +ℤ b) + (P a + P b)
add a b = (is_add (is_self a) (is_self b)).is

pub sub : (a b : ℤ) → P (a -ℤ b) + (N a + P b) ≡ N (a -ℤ b) + (P a + N b)
sub a b = (is_add (is_self a) (is_neg (is_self b))).is

pub opp : (a : ℤ) → P (neg_ℤ a) + P a ≡ N (neg_ℤ a) + N a
opp a = (is_neg (is_self a)).is

pub not_le : (a b : ℤ) → ¬ (a ≤ℤ b) → P b + N a < P a + N b
not_le a b h = let k : ¬ (P a + N b ≤ P b + N a) = λ z. h (le_up a b z) in omega arith

pub not_lt : (a b : ℤ) → ¬ (a <ℤ b) → P b + N a ≤ P a + N b
not_lt a b h = let k : ¬ (P a + N b < P b + N a) = λ z. h (lt_up a b z) in omega arith

pub ruleset zarith = (arith, le_down, lt_down, eq_down, le_up, lt_up, eq_up)
