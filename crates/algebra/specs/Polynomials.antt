-- Polynomial identities over ℤ by computation. `E` are polynomial expressions over numbered variables, `⟦ e ⟧ ρ` their value.
-- `norm e` is a sparse Horner form: `hor p q` is p + x·q, where x is the first variable, p speaks of the variables after it and q of all.
-- `solve e f ρ tt : ⟦ e ⟧ ρ ≡ ⟦ f ⟧ ρ` wherever e − f normalizes to zero, which antt computes.
use Rattle.std.specs.Prelude.{◌≡◌, refl, Bool, true, false, ◌&&◌, List, [], ◌∷◌, ℕ, zero, suc, ℤ, pos, negsuc, neg_ℤ, ◌+ℤ◌, ◌-ℤ◌, ◌*ℤ◌, T}
use Rattle.std.proofs.Common.{sym, ◌∙◌, ap, ap₂, arith}
use Rattle.std.proofs.Math.IntN.{+ℤ_idl, +ℤ_idr, +ℤ_comm, +ℤ_assoc, +ℤ_invr, zero-*ℤ, *ℤ-zero, *ℤ_comm}
use borrow.Author.Differences.{ints}
use Rattle.algebra.specs.Integers.{*ℤ-assoc, *ℤ-+ℤ, +ℤ-*ℤ}

-- ---- expressions
infixl 6 ◌:+◌ ◌:-◌
infixl 7 ◌:*◌
pub data E : Type 0 where
  var : ℕ → E
  lit : ℤ → E
  ◌:+◌ : E → E → E
  ◌:-◌ : E → E → E
  ◌:*◌ : E → E → E
  neg : E → E

abbrev pub Env : Type 0
Env = ℕ → ℤ

abbrev pub env : List ℤ → Env
env [] i = pos 0
env (x ∷ l) zero = x
env (x ∷ l) (suc i) = env l i

abbrev pub ⟦◌⟧ : E → Env → ℤ
⟦ var i ⟧ ρ = ρ i
⟦ lit k ⟧ ρ = k
⟦ a :+ b ⟧ ρ = ⟦ a ⟧ ρ +ℤ ⟦ b ⟧ ρ
⟦ a :- b ⟧ ρ = ⟦ a ⟧ ρ -ℤ ⟦ b ⟧ ρ
⟦ a :* b ⟧ ρ = ⟦ a ⟧ ρ *ℤ ⟦ b ⟧ ρ
⟦ neg a ⟧ ρ = neg_ℤ (⟦ a ⟧ ρ)

-- ---- polynomials
pub data Poly : Type 0 where
  nil : Poly
  con : ℤ → Poly
  hor : Poly → Poly → Poly

abbrev sh : Env → Env
sh ρ i = ρ (suc i)

abbrev ev : Poly → Env → ℤ
ev nil ρ = pos 0
ev (con c) ρ = c
ev (hor p q) ρ = ev p (sh ρ) +ℤ ρ 0 *ℤ ev q ρ

abbrev pub vr : ℕ → Poly
vr zero = hor nil (con (pos 1))
vr (suc i) = hor (vr i) nil

abbrev pub add_const : ℤ → Poly → Poly
add_const c nil = con c
add_const c (con d) = con (c +ℤ d)
add_const c (hor p q) = hor (add_const c p) q

abbrev pub add : Poly → Poly → Poly
add nil r = r
add (con c) r = add_const c r
add (hor p q) nil = hor p q
add (hor p q) (con d) = hor (add_const d p) q
add (hor p q) (hor p' q') = hor (add p p') (add q q')

abbrev pub scale : ℤ → Poly → Poly
scale c nil = nil
scale c (con d) = con (c *ℤ d)
scale c (hor p q) = hor (scale c p) (scale c q)

-- each coefficient of the first variable, by f
abbrev pub each : (Poly → Poly) → Poly → Poly
each f nil = nil
each f (con d) = hor (f (con d)) nil
each f (hor p q) = hor (f p) (each f q)

abbrev pub up : Poly → Poly
up nil = nil
up (con c) = hor nil (con c)
up (hor p q) = hor nil (hor p q)

abbrev pub mul : Poly → Poly → Poly
mul nil r = nil
mul (con c) r = scale c r
mul (hor p q) r = add (each (λ t. mul p t) r) (up (mul q r))

abbrev pub norm : E → Poly
norm (var i) = vr i
norm (lit k) = con k
norm (a :+ b) = add (norm a) (norm b)
norm (a :- b) = add (norm a) (scale (negsuc 0) (norm b))
norm (a :* b) = mul (norm a) (norm b)
norm (neg a) = scale (negsuc 0) (norm a)

abbrev pub zero_int : ℤ → Bool
zero_int (pos zero) = true
zero_int (pos (suc n)) = false
zero_int (negsuc n) = false

abbrev pub null : Poly → Bool
null nil = true
null (con c) = zero_int c
null (hor p q) = null p && null q

-- ---- soundness
swap4 : (p q r s : ℤ) → (p +ℤ q) +ℤ (r +ℤ s) ≡ (p +ℤ r) +ℤ (q +ℤ s)
swap4 p q r s = omega (arith, ints)

left_comm : (p q r : ℤ) → p *ℤ (q *ℤ r) ≡ q *ℤ (p *ℤ r)
left_comm p q r = sym (*ℤ-assoc p q r) ∙ ap (λ t. t *ℤ r) (*ℤ_comm p q) ∙ *ℤ-assoc q p r

add_mul : (p q x r : ℤ) → (p +ℤ x *ℤ q) *ℤ r ≡ p *ℤ r +ℤ x *ℤ (q *ℤ r)
add_mul p q x r = +ℤ-*ℤ p (x *ℤ q) r ∙ ap (λ t. p *ℤ r +ℤ t) (*ℤ-assoc x q r)

one-*ℤ : (p : ℤ) → p *ℤ pos 1 ≡ p
one-*ℤ p = omega (arith, ints)

minus : (p : ℤ) → negsuc 0 *ℤ p ≡ neg_ℤ p
minus p = omega (arith, ints)

pad : (p x : ℤ) → p +ℤ x *ℤ pos 0 ≡ p
pad p x = omega (arith, ints)

ev_vr : (i : ℕ) (ρ : Env) → ev (vr i) ρ ≡ ρ i
ev_vr zero ρ = +ℤ_idl (ρ 0 *ℤ pos 1) ∙ one-*ℤ (ρ 0)
ev_vr (suc i) ρ = ap (λ t. t +ℤ ρ 0 *ℤ pos 0) (ev_vr i (sh ρ)) ∙ pad (ρ (suc i)) (ρ 0)

ev_add_const : (c : ℤ) (p : Poly) (ρ : Env) → ev (add_const c p) ρ ≡ c +ℤ ev p ρ
ev_add_const c nil ρ = sym (+ℤ_idr c)
ev_add_const c (con d) ρ = refl
ev_add_const c (hor p q) ρ = ap (λ t. t +ℤ ρ 0 *ℤ ev q ρ) (ev_add_const c p (sh ρ)) ∙ +ℤ_assoc c (ev p (sh ρ)) (ρ 0 *ℤ ev q ρ)

ev_add : (p q : Poly) (ρ : Env) → ev (add p q) ρ ≡ ev p ρ +ℤ ev q ρ
ev_add nil r ρ = sym (+ℤ_idl (ev r ρ))
ev_add (con c) r ρ = ev_add_const c r ρ
ev_add (hor p q) nil ρ = sym (+ℤ_idr (ev (hor p q) ρ))
ev_add (hor p q) (con d) ρ = ev_add_const d (hor p q) ρ ∙ +ℤ_comm d (ev (hor p q) ρ)
ev_add (hor p q) (hor p' q') ρ =
    ap₂ ◌+ℤ◌ (ev_add p p' (sh ρ)) (ap (λ t. ρ 0 *ℤ t) (ev_add q q' ρ) ∙ *ℤ-+ℤ (ρ 0) (ev q ρ) (ev q' ρ))
    ∙ swap4 (ev p (sh ρ)) (ev p' (sh ρ)) (ρ 0 *ℤ ev q ρ) (ρ 0 *ℤ ev q' ρ)

ev_scale : (c : ℤ) (p : Poly) (ρ : Env) → ev (scale c p) ρ ≡ c *ℤ ev p ρ
ev_scale c nil ρ = sym (*ℤ-zero c)
ev_scale c (con d) ρ = refl
ev_scale c (hor p q) ρ =
    ap₂ ◌+ℤ◌ (ev_scale c p (sh ρ)) (ap (λ t. ρ 0 *ℤ t) (ev_scale c q ρ) ∙ left_comm (ρ 0) c (ev q ρ))
    ∙ sym (*ℤ-+ℤ c (ev p (sh ρ)) (ρ 0 *ℤ ev q ρ))

ev_each : (f : Poly → Poly) (k : ℤ) (ρ : Env) → ((t : Poly) → ev (f t) (sh ρ) ≡ k *ℤ ev t (sh ρ)) → (r : Poly) → ev (each f r) ρ ≡ k *ℤ ev r ρ
ev_each f k ρ h nil = sym (*ℤ-zero k)
ev_each f k ρ h (con d) = pad (ev (f (con d)) (sh ρ)) (ρ 0) ∙ h (con d)
ev_each f k ρ h (hor p q) =
    ap₂ ◌+ℤ◌ (h p) (ap (λ t. ρ 0 *ℤ t) (ev_each f k ρ h q) ∙ left_comm (ρ 0) k (ev q ρ))
    ∙ sym (*ℤ-+ℤ k (ev p (sh ρ)) (ρ 0 *ℤ ev q ρ))

ev_up : (p : Poly) (ρ : Env) → ev (up p) ρ ≡ ρ 0 *ℤ ev p ρ
ev_up nil ρ = sym (*ℤ-zero (ρ 0))
ev_up (con c) ρ = +ℤ_idl (ρ 0 *ℤ c)
ev_up (hor p q) ρ = +ℤ_idl (ρ 0 *ℤ ev (hor p q) ρ)

ev_mul : (p q : Poly) (ρ : Env) → ev (mul p q) ρ ≡ ev p ρ *ℤ ev q ρ
ev_mul nil r ρ = sym (zero-*ℤ (ev r ρ))
ev_mul (con c) r ρ = ev_scale c r ρ
ev_mul (hor p q) r ρ =
    ev_add (each (λ t. mul p t) r) (up (mul q r)) ρ
    ∙ ap₂ ◌+ℤ◌ (ev_each (λ t. mul p t) (ev p (sh ρ)) ρ (λ t. ev_mul p t (sh ρ)) r) (ev_up (mul q r) ρ ∙ ap (λ t. ρ 0 *ℤ t) (ev_mul q r ρ))
    ∙ sym (add_mul (ev p (sh ρ)) (ev q ρ) (ρ 0) (ev r ρ))

norm_sound : (e : E) (ρ : Env) → ev (norm e) ρ ≡ ⟦ e ⟧ ρ
norm_sound (var i) ρ = ev_vr i ρ
norm_sound (lit k) ρ = refl
norm_sound (a :+ b) ρ = ev_add (norm a) (norm b) ρ ∙ ap₂ ◌+ℤ◌ (norm_sound a ρ) (norm_sound b ρ)
norm_sound (a :- b) ρ = ev_add (norm a) (scale (negsuc 0) (norm b)) ρ ∙ ap₂ ◌+ℤ◌ (norm_sound a ρ) (ev_scale (negsuc 0) (norm b) ρ ∙ minus (ev (norm b) ρ) ∙ ap neg_ℤ (norm_sound b ρ))
norm_sound (a :* b) ρ = ev_mul (norm a) (norm b) ρ ∙ ap₂ ◌*ℤ◌ (norm_sound a ρ) (norm_sound b ρ)
norm_sound (neg a) ρ = ev_scale (negsuc 0) (norm a) ρ ∙ minus (ev (norm a) ρ) ∙ ap neg_ℤ (norm_sound a ρ)

and_l : (a b : Bool) → T (a && b) → T a
and_l true b t = tt
and_l false b t = t

and_r : (a b : Bool) → T (a && b) → T b
and_r true b t = t
and_r false b t = absurd t

zero_int_sound : (c : ℤ) → T (zero_int c) → c ≡ pos 0
zero_int_sound (pos zero) t = refl
zero_int_sound (pos (suc n)) t = absurd t
zero_int_sound (negsuc n) t = absurd t

null_sound : (p : Poly) (ρ : Env) → T (null p) → ev p ρ ≡ pos 0
null_sound nil ρ t = refl
null_sound (con c) ρ t = zero_int_sound c t
null_sound (hor p q) ρ t =
    ap₂ ◌+ℤ◌ (null_sound p (sh ρ) (and_l (null p) (null q) t)) (ap (λ s. ρ 0 *ℤ s) (null_sound q ρ (and_r (null p) (null q) t)) ∙ *ℤ-zero (ρ 0))

pub sub_zero : (a b : ℤ) → a -ℤ b ≡ pos 0 → a ≡ b
sub_zero a b h = omega (arith, ints)

-- ---- THE THEOREM
pub solve : (e f : E) (l : List ℤ) → T (null (norm (e :- f))) → ⟦ e ⟧ (env l) ≡ ⟦ f ⟧ (env l)
solve e f l t = sub_zero (⟦ e ⟧ (env l)) (⟦ f ⟧ (env l)) (sym (norm_sound (e :- f) (env l)) ∙ null_sound (norm (e :- f)) (env l) t)

-- ---- an equation from others, each times a factor: g − f is Σ cᵢ·(eᵢ − fᵢ) as polynomials
pub data Hyp : Type 0 where
  hyp : E → E → E → Hyp

abbrev pub comb : List Hyp → E
comb [] = lit (pos 0)
comb (hyp c e f ∷ hs) = c :* (e :- f) :+ comb hs

abbrev pub Imp : Env → List Hyp → Type 0 → Type 0
Imp ρ [] G = G
Imp ρ (hyp c e f ∷ hs) G = ⟦ e ⟧ ρ ≡ ⟦ f ⟧ ρ → Imp ρ hs G

vanish : (c a b : ℤ) → a ≡ b → c *ℤ (a -ℤ b) ≡ pos 0
vanish c a b h = ap (λ t. c *ℤ (t -ℤ b)) h ∙ ap (λ t. c *ℤ t) (+ℤ_invr b) ∙ *ℤ-zero c

imp : (ρ : Env) (hs : List Hyp) (G : Type 0) → (⟦ comb hs ⟧ ρ ≡ pos 0 → G) → Imp ρ hs G
imp ρ [] G k = k refl
imp ρ (hyp c e f ∷ hs) G k = λ h. imp ρ hs G (λ z. k (ap₂ ◌+ℤ◌ (vanish (⟦ c ⟧ ρ) (⟦ e ⟧ ρ) (⟦ f ⟧ ρ) h) z))

pub lin : (g f : E) (l : List ℤ) (hs : List Hyp) → T (null (norm (g :- f :- comb hs))) → Imp (env l) hs (⟦ g ⟧ (env l) ≡ ⟦ f ⟧ (env l))
lin g f l hs t = imp (env l) hs (⟦ g ⟧ (env l) ≡ ⟦ f ⟧ (env l)) λ z. sub_zero (⟦ g ⟧ (env l)) (⟦ f ⟧ (env l)) (solve (g :- f) (comb hs) l t ∙ z)
