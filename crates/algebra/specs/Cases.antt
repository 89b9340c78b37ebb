-- Tests as facts: a Boolean test comes as a case with the fact and the test's value.
use Rattle.std.specs.Prelude.{◌≡◌, refl, Bool, true, false, ◌||◌, cond, ◌⊎◌, ◌≢◌, ℕ, ◌≤◌, ◌<◌, T, eqb, leb}
use Rattle.std.proofs.Common.{sym, ◌∙◌, ap, inl, inr, arith, leb-true, leb-false, eqb-true}
use Rattle.std.proofs.lemmas.Bool.{eqb-false}
pub use Rattle.std.proofs.lemmas.Bool.{cases_Bool as true_or_false, or_cases, or_parts, or_right, not-true as not_true, not-false as not_false}
pub use Rattle.std.specs.Cmp.{both_ways as same_test, first_so as and_left, second_so as and_right}

-- ---- the cases of a sum
pub both : {A B C : Type 0} → A ⊎ B → (A → C) → (B → C) → C
both (inl a) f g = f a
both (inr b) f g = g b

pub four : {A B C D E : Type 0} → A ⊎ B ⊎ C ⊎ D → (A → E) → (B → E) → (C → E) → (D → E) → E
four (inl a) f g h k = f a
four (inr (inl b)) f g h k = g b
four (inr (inr (inl c))) f g h k = h c
four (inr (inr (inr d))) f g h k = k d

-- ---- a test, by cases, with the fact and the test's value
pub le_cases : (a b : ℕ) → ((a ≤ b) × (leb a b ≡ true)) ⊎ ((b < a) × (leb a b ≡ false))
le_cases a b = both (true_or_false (leb a b)) (λ e. inl (leb-true a b e, e)) (λ e. inr (leb-false a b e, e))

pub eq_cases : (a b : ℕ) → ((a ≡ b) × (eqb a b ≡ true)) ⊎ ((a ≢ b) × (eqb a b ≡ false))
eq_cases a b = both (true_or_false (eqb a b)) (λ e. inl (eqb-true a b e, e)) (λ e. inr (eqb-false a b e, e))

pub never : {A : Type 0} (t : Bool) → t ≡ true → t ≡ false → A
never t p q = absurd (let z : ◌≡◌ {A = ℕ} 0 1 = ap (λ b. cond b 0 1) (sym p ∙ q) in omega arith)

-- ---- tests
pub is_T : (t : Bool) → t ≡ true → T t
is_T true e = tt
is_T false e = never false e refl

pub T-is : (t : Bool) → T t → t ≡ true
T-is true h = refl
T-is false h = absurd h

pub or_no_left : (s t : Bool) → (s || t) ≡ false → s ≡ false
or_no_left true t e = e
or_no_left false t e = refl

pub or_no_right : (s t : Bool) → (s || t) ≡ false → t ≡ false
or_no_right true t e = never true refl e
or_no_right false t e = e
