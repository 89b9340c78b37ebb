-- `validate` passes a lent ring exactly when `resolve_self_intersections` with no picks and long enough buffers delivers that very ring: what is long enough for
-- the call is so for the check, and the call's answer is the machine's.
use mathlib.Core.Path.{◌≡◌, refl, sym, ◌∙◌, ap}
use mathlib.Core.Bool.{Bool, false, ◌||◌}
use mathlib.Core.List.{List, []}
use mathlib.Core.Logic.{◌↔◌}
use Prim.Native.Nat.{ℕ}
use lib.Dec.{ltb}
use lib.IntN.{ℤ}
use lib.ListN.{length, take}
use Rattle.std.specs.Prelude.{Result, Ok, Err}
use Rattle.algebra.specs.Cases.{never, or_no_left, or_no_right}
use Rattle.geometry.specs.Lent.{points}
use Rattle.refusal.specs.declared.Refusal.{Refusal}
use Rattle.refusal.specs.declared.Refusal.TheVariants.{PicksUsedUp}
use Rattle.machine.specs.Answer.{delivered, call}
use Rattle.two_opt.specs.Entry.{Loan, refusal_of, answer_of, short_of, Entry}
use Rattle.two_opt.specs.declared.entries.Delivered.{Delivered}
use Rattle.validate.specs.Drawn.{passed, check, too_short, validated}
use Rattle.validate.proofs.Passing.{ring_of, is_delivered, passes_exactly}

long_enough : (n : ℕ) (x y : List ℤ) (was : Loan) → short_of n x y was ≡ false → too_short n x y was.ring ≡ false
long_enough n x y was h =
    let of_points = or_no_left (ltb (length x) n || (ltb (length y) n || (ltb (length was.ring) n || (ltb (length was.index) n || false)))) _ (or_no_left _ _ h) in
    let b = or_no_right (ltb (length x) n) _ of_points in
    let c = or_no_right (ltb (length y) n) _ b in
    rw (or_no_left (ltb (length x) n) _ of_points, or_no_left (ltb (length y) n) _ b, or_no_left (ltb (length was.ring) n) _ c)

never_delivered : (r : Refusal) (ring : List ℕ) → is_delivered (refusal_of r ring) ≡ false
never_delivered (PicksUsedUp moves left) ring = refl
never_delivered r ring = refl

-- the code's answer is a delivery of a ring: it is Ok, and that ring is left
delivers : (done : Result Delivered Refusal) (left r : List ℕ) (moves cross : ℕ) → answer_of done left ≡ delivered r moves cross → (d : Delivered) × (done ≡ Ok d) × (left ≡ r)
delivers (Ok d) left r moves cross h = (d, refl, ap ring_of h)
delivers (Err e) left r moves cross h = never (is_delivered (refusal_of e left)) (ap is_delivered h) (never_delivered e left)

-- With no picks, of a loan `was` that is long enough, `done` is the answer and `is` what is left.
pub validate_exactly : (n : ℕ) (x y : List ℤ) (was is : Loan) (done : Result Delivered Refusal) → short_of n x y was ≡ false
    → Entry n x y (take n was.ring) [] was is (answer_of done (take n is.ring))
    → (validated n x y was.ring ≡ passed) ↔ ((d : Delivered) × (done ≡ Ok d) × (take n is.ring ≡ take n was.ring))
unfolding validated
validate_exactly n x y was is done h e = (there, back)
  where
    ring : List ℕ
    ring = take n was.ring

    exactly : (check n (points x y) ring false ≡ passed) ↔ ((moves : ℕ) × (cross : ℕ) × (call n (points x y) false ring [] ≡ delivered ring moves cross))
    exactly = passes_exactly n (points x y) ring

    same_check : check n (points x y) ring (too_short n x y was.ring) ≡ check n (points x y) ring false
    same_check = ap (check n (points x y) ring) (long_enough n x y was h)

    same_call : answer_of done (take n is.ring) ≡ call n (points x y) false ring []
    same_call = e.answers ∙ ap (λ (s : Bool). call n (points x y) s ring []) h

    there : check n (points x y) ring (too_short n x y was.ring) ≡ passed → (d : Delivered) × (done ≡ Ok d) × (take n is.ring ≡ ring)
    there p = let (moves, cross, a) = exactly.0 (sym same_check ∙ p) in delivers done (take n is.ring) ring moves cross (same_call ∙ a)

    back : (d : Delivered) × (done ≡ Ok d) × (take n is.ring ≡ ring) → check n (points x y) ring (too_short n x y was.ring) ≡ passed
    back (d, ok, same) = same_check ∙ exactly.1 (d.moves, d.cross, sym same_call ∙ (λ i. answer_of (ok i) (same i)))
