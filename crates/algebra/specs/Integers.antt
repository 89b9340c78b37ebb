-- The laws of ℤ by one method. `Is z a b` says that z is a - b for naturals a and b. Sums, negations and products of such are such,
-- and two integers that are a - b and c - d with a + d = c + b are equal. So each law of ℤ is an equation of ℕ, which omega proves.
use Rattle.std.specs.Prelude.{◌≡◌, Bool, true, false, not, cond, ℕ, zero, suc, ◌+◌, ◌*◌, ◌-◌, ◌<◌, ◌≤◌, ℤ, pos, negsuc, neg_ℤ, ◌+ℤ◌, ◌*ℤ◌, T, ltb}
use Rattle.std.proofs.Common.{ap, arith, ltb→lt, nltb→le}
use Rattle.std.proofs.Math.IntN.{sub_ℕ}

-- the positive part
abbrev pub P : ℤ → ℕ
P (pos n) = n
P (negsuc n) = 0

-- the negative part
abbrev pub N : ℤ → ℕ
N (pos n) = 0
N (negsuc n) = suc n

-- z is a - b
pub record Is (z : ℤ) (a b : ℕ) : Type 0 where
  pub is : P z + b ≡ N z + a

pub is_self : (z : ℤ) → Is z (P z) (N z)
is_self z = record { is = omega arith }

pub is_cast : {z : ℤ} {a b c d : ℕ} → Is z a b → a + d ≡ c + b → Is z c d
is_cast h e = record { is = omega arith }

eq_is : (z w : ℤ) (a b : ℕ) → P z + b ≡ N z + a → P w + b ≡ N w + a → z ≡ w
eq_is (pos m) (pos n) a b h k = ap pos (omega arith)
eq_is (pos m) (negsuc n) a b h k = absurd (omega arith)
eq_is (negsuc m) (pos n) a b h k = absurd (omega arith)
eq_is (negsuc m) (negsuc n) a b h k = ap negsuc (omega arith)

pub is_eq : {z w : ℤ} {a b c d : ℕ} → Is z a b → Is w c d → a + d ≡ c + b → z ≡ w
is_eq {z} {w} {a} {b} {c} {d} h k e = eq_is z w a b h.is (omega arith)

cond_ind : (c : Bool) (x y : ℤ) (Q : ℤ → Type 0) → (T c → Q x) → (T (not c) → Q y) → Q (cond c x y)
cond_ind true x y Q f g = f tt
cond_ind false x y Q f g = g tt

pub is_sub : (a b : ℕ) → Is (sub_ℕ a b) a b
is_sub a b = cond_ind (ltb a b) (negsuc (b - suc a)) (pos (a - b)) (λ z. Is z a b)
    (λ t. record { is = neg (ltb→lt a b t) }) (λ t. record { is = plus (nltb→le a b t) })
  where
    neg : a < b → 0 + b ≡ suc (b - suc a) + a
    neg h = omega arith

    plus : b ≤ a → (a - b) + b ≡ 0 + a
    plus h = omega arith

pub is_neg : {z : ℤ} {a b : ℕ} → Is z a b → Is (neg_ℤ z) b a
is_neg {z = pos zero} h = record { is = omega (arith, h.is) }
is_neg {z = pos (suc n)} h = record { is = omega (arith, h.is) }
is_neg {z = negsuc n} h = record { is = omega (arith, h.is) }

pub is_add : {z w : ℤ} {a b c d : ℕ} → Is z a b → Is w c d → Is (z +ℤ w) (a + c) (b + d)
is_add {z = pos m} {w = pos n} h k = record { is = omega (arith, h.is, k.is) }
is_add {z = pos m} {w = negsuc n} h k = record { is = omega (arith, h.is, k.is, (is_sub m (suc n)).is) }
is_add {z = negsuc m} {w = pos n} h k = record { is = omega (arith, h.is, k.is, (is_sub n (suc m)).is) }
is_add {z = negsuc m} {w = negsuc n} h k = record { is = omega (arith, h.is, k.is) }

-- the product, first at P and N
self_mul : (z w : ℤ) → Is (z *ℤ w) (P z * P w + N z * N w) (P z * N w + N z * P w)
self_mul (pos m) (pos n) = record { is = omega arith }
self_mul (pos m) (negsuc n) = record { is = omega (arith, (is_neg (is_self (pos (m * suc n)))).is) }
self_mul (negsuc m) (pos n) = record { is = omega (arith, (is_neg (is_self (pos (suc m * n)))).is) }
self_mul (negsuc m) (negsuc n) = record { is = omega arith }

mul_change : (p n q m a b c d : ℕ) → p + b ≡ n + a → q + d ≡ m + c → (p * q + n * m) + (a * d + b * c) ≡ (a * c + b * d) + (p * m + n * q)
mul_change p n q m a b c d h k = omega (arith, ap (λ t. t * q) h, ap (λ t. t * m) h, ap (λ t. a * t) k, ap (λ t. b * t) k)

pub is_mul : {z w : ℤ} {a b c d : ℕ} → Is z a b → Is w c d → Is (z *ℤ w) (a * c + b * d) (a * d + b * c)
is_mul {z} {w} {a} {b} {c} {d} h k = is_cast (self_mul z w) (mul_change (P z) (N z) (P w) (N w) a b c d h.is k.is)

-- ---- the ring's laws
pub *ℤ-assoc : (a b c : ℤ) → (a *ℤ b) *ℤ c ≡ a *ℤ (b *ℤ c)
*ℤ-assoc a b c = is_eq (is_mul (is_mul (is_self a) (is_self b)) (is_self c)) (is_mul (is_self a) (is_mul (is_self b) (is_self c))) (omega arith)

pub *ℤ-+ℤ : (a b c : ℤ) → a *ℤ (b +ℤ c) ≡ a *ℤ b +ℤ a *ℤ c
*ℤ-+ℤ a b c = is_eq (is_mul (is_self a) (is_add (is_self b) (is_self c))) (is_add (is_mul (is_self a) (is_self b)) (is_mul (is_self a) (is_self c))) (omega arith)

pub +ℤ-*ℤ : (a b c : ℤ) → (a +ℤ b) *ℤ c ≡ a *ℤ c +ℤ b *ℤ c
+ℤ-*ℤ a b c = is_eq (is_mul (is_add (is_self a) (is_self b)) (is_self c)) (is_add (is_mul (is_self a) (is_self c)) (is_mul (is_self b) (is_self c))) (omega arith)
