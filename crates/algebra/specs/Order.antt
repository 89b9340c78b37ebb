-- The order of ℤ, moved into ℕ: a ≤ℤ b is P a + N b ≤ P b + N a, and each expression is a difference of two polynomials over the naturals
-- P x and N x of its variables, so that omega proves what is linear. Then the products' signs.
use Rattle.std.specs.Prelude.{◌≡◌, refl, ◌⊎◌, List, ℕ, zero, suc, ◌+◌, ◌*◌, ◌≤◌, ◌<◌, ℤ, pos, negsuc, ◌*ℤ◌, ◌≤ℤ◌, ◌<ℤ◌}
use Rattle.std.proofs.Common.{ap, inl, inr, ⊎_elim, zero-le, arith, leb→le, le→leb, ltb→lt, lt→ltb}
use Rattle.algebra.specs.Integers.{P, N, Is, is_self, is_eq, is_add, is_mul, is_neg}
use Rattle.algebra.specs.Polynomials.{E, var, lit, ◌:+◌, ◌:-◌, ◌:*◌, neg, ⟦◌⟧, env, Env}

-- ---- at P and N
pub le_down : {a b : ℤ} → a ≤ℤ b → P a + N b ≤ P b + N a
le_down {a = pos m} {b = pos n} h = omega (arith, leb→le m n h.le)
le_down {a = pos m} {b = negsuc n} h = absurd h.le
le_down {a = negsuc m} {b = pos n} h = omega arith
le_down {a = negsuc m} {b = negsuc n} h = omega (arith, leb→le n m h.le)

pub le_up : (a b : ℤ) → P a + N b ≤ P b + N a → a ≤ℤ b
le_up (pos m) (pos n) h = record { le = le→leb m n (omega arith) }
le_up (pos m) (negsuc n) h = absurd (omega arith)
le_up (negsuc m) (pos n) h = record { le = tt }
le_up (negsuc m) (negsuc n) h = record { le = le→leb n m (omega arith) }

pub lt_down : {a b : ℤ} → a <ℤ b → P a + N b < P b + N a
lt_down {a = pos m} {b = pos n} h = omega (arith, ltb→lt m n h.lt)
lt_down {a = pos m} {b = negsuc n} h = absurd h.lt
lt_down {a = negsuc m} {b = pos n} h = omega arith
lt_down {a = negsuc m} {b = negsuc n} h = omega (arith, ltb→lt n m h.lt)

pub lt_up : (a b : ℤ) → P a + N b < P b + N a → a <ℤ b
lt_up (pos m) (pos n) h = record { lt = lt→ltb m n (omega arith) }
lt_up (pos m) (negsuc n) h = absurd (omega arith)
lt_up (negsuc m) (pos n) h = record { lt = tt }
lt_up (negsuc m) (negsuc n) h = record { lt = lt→ltb n m (omega arith) }

-- ---- expressions as differences of polynomials over ℕ
abbrev mutual
  pub hi : E → Env → ℕ
  hi (var i) ρ = P (ρ i)
  hi (lit k) ρ = P k
  hi (a :+ b) ρ = hi a ρ + hi b ρ
  hi (a :- b) ρ = hi a ρ + lo b ρ
  hi (a :* b) ρ = hi a ρ * hi b ρ + lo a ρ * lo b ρ
  hi (neg a) ρ = lo a ρ

  pub lo : E → Env → ℕ
  lo (var i) ρ = N (ρ i)
  lo (lit k) ρ = N k
  lo (a :+ b) ρ = lo a ρ + lo b ρ
  lo (a :- b) ρ = lo a ρ + hi b ρ
  lo (a :* b) ρ = hi a ρ * lo b ρ + lo a ρ * hi b ρ
  lo (neg a) ρ = hi a ρ

is : (e : E) (ρ : Env) → Is (⟦ e ⟧ ρ) (hi e ρ) (lo e ρ)
is (var i) ρ = is_self (ρ i)
is (lit k) ρ = is_self k
is (a :+ b) ρ = is_add (is a ρ) (is b ρ)
is (a :- b) ρ = is_add (is a ρ) (is_neg (is b ρ))
is (a :* b) ρ = is_mul (is a ρ) (is b ρ)
is (neg a) ρ = is_neg (is a ρ)

module _ (e f : E) (l : List ℤ) where
  abbrev pub lower : ℕ
  lower = hi e (env l) + lo f (env l)

  abbrev pub upper : ℕ
  upper = hi f (env l) + lo e (env l)

  pub eq_fact : ⟦ e ⟧ (env l) ≡ ⟦ f ⟧ (env l) → lower ≡ upper
  eq_fact h = omega (arith, (is e (env l)).is, (is f (env l)).is, ap P h, ap N h)

  -- a goal, for omega
  pub le_by : lower ≤ upper → ⟦ e ⟧ (env l) ≤ℤ ⟦ f ⟧ (env l)
  le_by h = le_up (⟦ e ⟧ (env l)) (⟦ f ⟧ (env l)) (omega (arith, (is e (env l)).is, (is f (env l)).is))

  pub lt_by : lower < upper → ⟦ e ⟧ (env l) <ℤ ⟦ f ⟧ (env l)
  lt_by h = lt_up (⟦ e ⟧ (env l)) (⟦ f ⟧ (env l)) (omega (arith, (is e (env l)).is, (is f (env l)).is))

-- ---- the order's laws
pub <ℤ-le : {a b : ℤ} → a <ℤ b → a ≤ℤ b
<ℤ-le {a} {b} h = le_up a b (omega (arith, lt_down h))

pub ≤ℤ-antisym : {a b : ℤ} → a ≤ℤ b → b ≤ℤ a → a ≡ b
≤ℤ-antisym {a} {b} h k = is_eq (is_self a) (is_self b) (omega (arith, le_down h, le_down k))

le_or_lt : (a b : ℕ) → (a ≤ b) ⊎ (b < a)
le_or_lt zero b = inl zero-le
le_or_lt (suc a) zero = inr (omega arith)
le_or_lt (suc a) (suc b) = ⊎_elim (λ h. inl (omega arith)) (λ h. inr (omega arith)) (le_or_lt a b)

pub ≤ℤ-or-< : (a b : ℤ) → (a ≤ℤ b) ⊎ (b <ℤ a)
≤ℤ-or-< a b = ⊎_elim (λ h. inl (le_up a b h)) (λ h. inr (lt_up b a (omega arith))) (le_or_lt (P a + N b) (P b + N a))

-- the sign of a number
pub data Sign (z : ℤ) : Type 0 where
  below : z <ℤ pos 0 → Sign z
  nul : z ≡ pos 0 → Sign z
  above : pos 0 <ℤ z → Sign z

pub sign : (z : ℤ) → Sign z
sign (pos zero) = nul refl
sign (pos (suc n)) = above (lt_up (pos 0) (pos (suc n)) (omega arith))
sign (negsuc n) = below (record { lt = tt })

-- ---- the products' signs
pub mul_nonneg : {a b : ℤ} → pos 0 ≤ℤ a → pos 0 ≤ℤ b → pos 0 ≤ℤ (a *ℤ b)
mul_nonneg {a = pos m} {b = pos n} h k = le_up (pos 0) (pos (m * n)) (omega arith)
mul_nonneg {a = pos m} {b = negsuc n} h k = absurd k.le
mul_nonneg {a = negsuc m} {b = b} h k = absurd h.le

pub mul_pos : {a b : ℤ} → pos 0 <ℤ a → pos 0 <ℤ b → pos 0 <ℤ (a *ℤ b)
mul_pos {a = pos zero} {b = b} h k = absurd (zz (lt_down h))
  where
    zz : 0 < 0 → ⊥
    zz h = omega arith
mul_pos {a = pos (suc m)} {b = pos zero} h k = absurd (zz (lt_down k))
  where
    zz : 0 < 0 → ⊥
    zz h = omega arith
mul_pos {a = pos (suc m)} {b = pos (suc n)} h k = lt_up (pos 0) (pos (suc m * suc n)) (omega arith)
mul_pos {a = pos (suc m)} {b = negsuc n} h k = absurd k.lt
mul_pos {a = negsuc m} {b = b} h k = absurd h.lt
