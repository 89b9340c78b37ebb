-- The signs of products, and what they say of the factors.
use Rattle.std.specs.Prelude.{◌≡◌, ◌⊎◌, [], ◌∷◌, ℤ, pos, neg_ℤ, ◌+ℤ◌, ◌*ℤ◌, ◌≤ℤ◌, ◌<ℤ◌}
use Rattle.std.proofs.Common.{subst, inl, inr, ⊎_elim, arith}
use Rattle.std.proofs.lemmas.Int.{ints}
use Rattle.std.proofs.Math.IntN.{*ℤ_comm}
use Rattle.algebra.specs.Polynomials.{var, ◌:*◌, neg, solve}
use Rattle.algebra.specs.Order.{Sign, below, nul, above, sign, mul_pos, ≤ℤ-or-<, ≤ℤ-antisym}

-- the sign turned
pub flip : {a : ℤ} → a <ℤ pos 0 → pos 0 <ℤ neg_ℤ a
flip h = omega (arith, ints)

pub mul_neg : {a b : ℤ} → a <ℤ pos 0 → b <ℤ pos 0 → pos 0 <ℤ (a *ℤ b)
mul_neg {a} {b} h k = subst (λ (z : ℤ). pos 0 <ℤ z) (solve (neg (var 0) :* neg (var 1)) (var 0 :* var 1) (a ∷ b ∷ []) tt) (mul_pos (flip h) (flip k))

pub mul_mixed : {a b : ℤ} → pos 0 <ℤ a → b <ℤ pos 0 → (a *ℤ b) <ℤ pos 0
mul_mixed {a} {b} h k = omega (arith, ints, mul_pos h (flip k), solve (var 0 :* neg (var 1)) (neg (var 0 :* var 1)) (a ∷ b ∷ []) tt)

pub mul_mixed' : {a b : ℤ} → a <ℤ pos 0 → pos 0 <ℤ b → (a *ℤ b) <ℤ pos 0
mul_mixed' h k = omega (arith, ints, mul_mixed k h)

-- a factor's sign, from the product's and the other factor's
pub pos_le : {p q : ℤ} → pos 0 <ℤ p → (p *ℤ q) ≤ℤ pos 0 → q ≤ℤ pos 0
pos_le {p} {q} h k = ⊎_elim (λ z. z) (λ z. absurd (omega (arith, ints, mul_pos h z))) (≤ℤ-or-< q (pos 0))

pub neg_le : {p q : ℤ} → p <ℤ pos 0 → (p *ℤ q) ≤ℤ pos 0 → pos 0 ≤ℤ q
neg_le {p} {q} h k = ⊎_elim (λ z. z) (λ z. absurd (omega (arith, ints, mul_neg h z))) (≤ℤ-or-< (pos 0) q)

pub pos_ge : {p q : ℤ} → pos 0 <ℤ p → pos 0 ≤ℤ (p *ℤ q) → pos 0 ≤ℤ q
pos_ge {p} {q} h k = ⊎_elim (λ z. z) (λ z. absurd (omega (arith, ints, mul_mixed h z))) (≤ℤ-or-< (pos 0) q)

pub neg_ge : {p q : ℤ} → p <ℤ pos 0 → pos 0 ≤ℤ (p *ℤ q) → q ≤ℤ pos 0
neg_ge {p} {q} h k = ⊎_elim (λ z. z) (λ z. absurd (omega (arith, ints, mul_mixed' h z))) (≤ℤ-or-< q (pos 0))

pub swap : (p q : ℤ) (Q : ℤ → Type 0) → Q (p *ℤ q) → Q (q *ℤ p)
swap p q Q = subst Q (*ℤ_comm p q)

pub no_zero : (a b : ℤ) → a *ℤ b ≡ pos 0 → (a ≡ pos 0) ⊎ (b ≡ pos 0)
no_zero a b e = go (sign a) (sign b)
  where
    go : Sign a → Sign b → (a ≡ pos 0) ⊎ (b ≡ pos 0)
    go (nul h) k = inl h
    go (below h) (nul k) = inr k
    go (above h) (nul k) = inr k
    go (below h) (below k) = absurd (omega (arith, ints, mul_neg h k))
    go (below h) (above k) = absurd (omega (arith, ints, mul_mixed' h k))
    go (above h) (below k) = absurd (omega (arith, ints, mul_mixed h k))
    go (above h) (above k) = absurd (omega (arith, ints, mul_pos h k))

-- ---- four numbers with p + r = q + s
module _ (p q r s : ℤ) (sum : p +ℤ r ≡ q +ℤ s) (pq : (p *ℤ q) ≤ℤ pos 0) (rs : (r *ℤ s) ≤ℤ pos 0) (pr : pos 0 ≤ℤ (p *ℤ r)) (qs : pos 0 ≤ℤ (q *ℤ s)) where
  pub both_zero : ((p ≡ pos 0) × (s ≡ pos 0)) ⊎ ((q ≡ pos 0) × (r ≡ pos 0))
  both_zero = go (sign p) (sign s)
    where
      up : pos 0 <ℤ p → (q ≡ pos 0) × (r ≡ pos 0)
      up h =
          let q≤ : q ≤ℤ pos 0 = pos_le h pq in
          let r≥ : pos 0 ≤ℤ r = pos_ge h pr in
          let s> : pos 0 <ℤ s = omega (arith, ints) in
          (≤ℤ-antisym q≤ (pos_ge s> (swap q s (λ z. pos 0 ≤ℤ z) qs)), ≤ℤ-antisym (pos_le s> (swap r s (λ z. z ≤ℤ pos 0) rs)) r≥)

      down : p <ℤ pos 0 → (q ≡ pos 0) × (r ≡ pos 0)
      down h =
          let q≥ : pos 0 ≤ℤ q = neg_le h pq in
          let r≤ : r ≤ℤ pos 0 = neg_ge h pr in
          let s< : s <ℤ pos 0 = omega (arith, ints) in
          (≤ℤ-antisym (neg_ge s< (swap q s (λ z. pos 0 ≤ℤ z) qs)) q≥, ≤ℤ-antisym r≤ (neg_le s< (swap r s (λ z. z ≤ℤ pos 0) rs)))

      go : Sign p → Sign s → ((p ≡ pos 0) × (s ≡ pos 0)) ⊎ ((q ≡ pos 0) × (r ≡ pos 0))
      go (above h) k = inr (up h)
      go (below h) k = inr (down h)
      go (nul h) (nul k) = inl (h, k)
      go (nul h) (above k) = absurd (omega (arith, ints, pos_ge k (swap q s (λ z. pos 0 ≤ℤ z) qs), pos_le k (swap r s (λ z. z ≤ℤ pos 0) rs)))
      go (nul h) (below k) = absurd (omega (arith, ints, neg_ge k (swap q s (λ z. pos 0 ≤ℤ z) qs), neg_le k (swap r s (λ z. z ≤ℤ pos 0) rs)))
