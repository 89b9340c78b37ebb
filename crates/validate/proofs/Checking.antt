-- What the exits of `validate` answer is what the definition says: the checks 1 to 6, then turn, then contact.
use Rattle.std.specs.Prelude.{◌≡◌, refl, Bool, true, false, List, ℕ, ◌≤◌, ℤ, take, Err}
use Rattle.std.proofs.Common.{sym, ◌∙◌, arith, Bor}
use mathlib.Core.Path.{subst⁻¹}
use Rattle.refusal.specs.declared.Refusal.{Refusal}
use Rattle.refusal.specs.declared.Refusal.TheVariants.{EdgesMeet}
use Rattle.refusal.specs.Number.{number_of}
use Rattle.refusal.proofs.Numbers.{some_number}
use Rattle.geometry.specs.Lent.{points}
use Rattle.geometry.specs.Spots.{spots}
use Rattle.geometry.specs.declared.lent.Points.{Points}
use Rattle.polygon.specs.Ring.{IsRing}
use Rattle.machine.specs.Board.{Distinct}
use Rattle.machine.specs.Answer.{counter_clockwise}
use Rattle.checks.specs.Checks.{first_six, Of}
use Rattle.checks.proofs.Checking.{six_small, six_ring, six_distinct, six_three}
use Rattle.validate.specs.Drawn.{Check, refused, contact, check_of, too_short, validated}

-- a refusal of the first six is told by its number: only contact is refused with 15
told_by : (e : Refusal) → (number_of e ≡ 15 → ⊥) → check_of (Err e) ≡ refused (number_of e)
told_by (EdgesMeet i j) h = absurd (h refl)
told_by e h = refl

-- ---- a call
module _ (n : ℕ) (x y : Bor (List ℤ)) (r : List ℕ) where
  abbrev pub six : ℕ
  six = first_six n (points x.now y.now) (too_short n x.now y.now r) false (take n r)

  pub refused_six : (e : Refusal) → number_of e ≡ six → check_of (Err e) ≡ validated n x.now y.now r
  unfolding validated
  refused_six e h =
      let few = six_small n (points x.now y.now) (too_short n x.now y.now r) false (take n r) in
      told_by e (λ z. omega (arith, z, h, few)) ∙ grind (arith, some_number e)

  -- past the six, of the points p
  module _ (p : Points) (o : Of n x y p) (h : 0 ≡ six) where
    pub is_board : IsRing p.n (take n r) × Distinct p.n (spots p) × (3 ≤ p.n)
    is_board =
        let pt = points x.now y.now in
        let s = too_short n x.now y.now r in
        subst⁻¹ (λ (X : Type 0). X) (λ t. IsRing (o.0 t) (take n r) × Distinct (o.0 t) (points (o.1 t).now (o.2 t).now) × (3 ≤ o.0 t))
        (six_ring n pt s false (take n r) (sym h), six_distinct n pt s false (take n r) (sym h), six_three n pt s false (take n r) (sym h))

    turn_is : counter_clockwise p.n (spots p) (take n r) ≡ counter_clockwise n (points x.now y.now) (take n r)
    turn_is = λ t. counter_clockwise (o.0 t) (points (o.1 t).now (o.2 t).now) (take n r)

    pub refused_turn : {b : Bool} → b ≡ counter_clockwise p.n (spots p) (take n r) → b ≡ false → refused 14 ≡ validated n x.now y.now r
    unfolding validated
    refused_turn e f = rw (sym h, sym (e ∙ turn_is) ∙ f)

    pub told_contact : {b : Bool} {c : Check} → b ≡ counter_clockwise p.n (spots p) (take n r) → b ≡ true → c ≡ contact p.n (spots p) (take n r) → c ≡ validated n x.now y.now r
    unfolding validated
    told_contact e f k = rw (sym h, sym (e ∙ turn_is) ∙ f) (k ∙ (λ t. contact (o.0 t) (points (o.1 t).now (o.2 t).now) (take n r)))
