-- A test that chooses gives the chosen value; a check that passes puts the points within the limits; two tests give a sign.
use mathlib.Core.Path.{◌≡◌, refl, sym, ◌∙◌, ap}
use mathlib.Core.Bool.{Bool, true, false, not, ◌&&◌, ◌||◌, cond}
use Prim.Native.Nat.{zero, suc}
use native.Mathlib.Omega.{arith}
use lib.IntN.{ℤ, pos, negsuc}
use lib.Signed.{lt_z}
use borrow.Author.Tests.{ltb-true, ltb-false}
use Rattle.algebra.specs.Cases.{never, and_left, and_right}
use Rattle.geometry.specs.Answers.{answered, refused, sign, checked, proper}
use Rattle.geometry.specs.Plane.{Point, eq_point, near_point}
use Rattle.geometry.specs.Lent.{InRange}
use Rattle.geometry.proofs.Reading.{in_range_lem}

pub taken : {A : Type 0} (t : Bool) (a b : A) → t ≡ true → a ≡ cond t a b
taken t a b e = rw e

pub left : {A : Type 0} (t : Bool) (a b : A) → t ≡ false → b ≡ cond t a b
left t a b e = rw e

-- ---- what a check lets pass
pub passed : {A : Type 0} (ok : Bool) (v : A) → ok ≡ true → answered v ≡ checked ok v
passed ok v e = rw e

pub stopped : {A : Type 0} (ok : Bool) (v : A) → ok ≡ false → refused 3 ≡ checked ok v
stopped ok v e = rw e

pub ends_in_range : (a b : Point) → proper a b ≡ true → InRange a × InRange b
ends_in_range a b e =
    let f = and_left (near_point a && near_point b) (not (eq_point a b)) e in
    (in_range_lem a (and_left (near_point a) (near_point b) f), in_range_lem b (and_right (near_point a) (near_point b) f))

-- points within the limits are the ends of a segment where they differ
ends_proper : {a b : Point} → InRange a → InRange b → proper a b ≡ not (eq_point a b)
ends_proper h k = rw (h.nx, h.ny, k.nx, k.ny)

neither : (s t : Bool) → not (s || t) ≡ (not s && not t)
neither true t = refl
neither false t = refl

pub both_proper : {a b c d : Point} → InRange a → InRange b → InRange c → InRange d → {s t : Bool} → s ≡ eq_point a b → t ≡ eq_point c d → not (s || t) ≡ (proper a b && proper c d)
both_proper ha hb hc hd {s} {t} e f = neither s t ∙ (λ i. not (e i) && not (f i)) ∙ sym (λ i. ends_proper ha hb i && ends_proper hc hd i)

-- ---- the sign
pub sign_above : (z t : ℤ) → z ≡ t → lt_z (pos 0) z ≡ true → pos 1 ≡ sign t
sign_above z (pos zero) e h = never false (sym (ap (λ z. lt_z (pos 0) z) e) ∙ h) refl
sign_above z (pos (suc n)) e h = refl
sign_above z (negsuc n) e h = never false (sym (ap (λ z. lt_z (pos 0) z) e) ∙ h) refl

pub sign_below : (z t : ℤ) → z ≡ t → lt_z z (pos 0) ≡ true → negsuc 0 ≡ sign t
sign_below z (pos n) e h = absurd (omega (arith, ltb-true n 0 (sym (ap (λ z. lt_z z (pos 0)) e) ∙ h)))
sign_below z (negsuc n) e h = refl

pub sign_zero : (z t : ℤ) → z ≡ t → lt_z (pos 0) z ≡ false → lt_z z (pos 0) ≡ false → pos 0 ≡ sign t
sign_zero z (pos zero) e h k = refl
sign_zero z (pos (suc n)) e h k = absurd (omega (arith, ltb-false 0 (suc n) (sym (ap (λ z. lt_z (pos 0) z) e) ∙ h)))
sign_zero z (negsuc n) e h k = never true refl (sym (ap (λ z. lt_z z (pos 0)) e) ∙ k)
