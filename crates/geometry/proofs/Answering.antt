-- What the public answers say in document 01's words: an answer is yes exactly where the words hold, and 3 exactly where a
-- coordinate is outside the limits or a segment has equal ends.
use mathlib.Core.Path.{◌≡◌, sym, ◌∙◌, ap}
use mathlib.Core.Bool.{Bool, true, false, not, ◌&&◌}
use mathlib.Core.Logic.{◌≢◌, ◌↔◌}
use Prim.Native.Nat.{ℕ}
use native.Mathlib.Omega.{arith}
use Rattle.std.specs.Cmp.Derive.{both_true}
use Rattle.algebra.specs.Cases.{both, true_or_false, never, not_true, and_left, and_right}
use Rattle.geometry.specs.Plane.{Point, eq_point, near_point}
use Rattle.geometry.specs.Segment.{End, Contains, contains, Meet, meets}
use Rattle.geometry.specs.Lent.{InRange}
use Rattle.geometry.specs.Contact.{Kind, HasKind, kind, some_contact}
use Rattle.geometry.specs.Answers.{Answer, answered, refused, checked, proper, containment, meeting, contact}
use Rattle.geometry.proofs.Points.{eq_point_same, eq_point_true}
use Rattle.geometry.proofs.Choosing.{ends_in_range, passed, stopped}
use Rattle.geometry.proofs.Containing.{contains_decides}
use Rattle.geometry.proofs.Meeting.{meets_decides}
use Rattle.geometry.proofs.Contacts.{kind_decides, meets_is}

-- ---- the check, in words
pub proper_decides : (a b : Point) → (proper a b ≡ true) ↔ (InRange a × InRange b × (a ≢ b))
proper_decides a b = (there, back)
  where
    there : proper a b ≡ true → InRange a × InRange b × (a ≢ b)
    there e =
        let r = ends_in_range a b e in
        (r.0, r.1, λ f. never (eq_point a b) (eq_point_same a b f) (not_true (eq_point a b) (and_right (near_point a && near_point b) (not (eq_point a b)) e)))

    back : InRange a × InRange b × (a ≢ b) → proper a b ≡ true
    back h = both (true_or_false (eq_point a b)) (λ t. absurd (h.2 (eq_point_true a b t))) (λ t. rw (h.0.nx, h.0.ny, h.1.nx, h.1.ny, t))

-- ---- an answer that a check guards
module _ {A : Type 0} where
  same_value : (s t : A) → answered s ≡ answered t → s ≡ t
  same_value s t e = cc

  not_both : {X : Type 0} (s : A) → refused 3 ≡ answered s → X
  not_both s e = let z : ◌≡◌ {A = ℕ} 0 1 = cc in absurd (omega arith)

  value_says : (ok : Bool) (v w : A) → (checked ok v ≡ answered w) ↔ ((ok ≡ true) × (v ≡ w))
  value_says ok v w = (
    λ e. both (true_or_false ok) (λ t. (t, same_value v w (passed ok v t ∙ e))) (λ t. not_both w (stopped ok v t ∙ e)),
    λ h. sym (passed ok v h.0) ∙ ap answered h.1,
  )

  three_says : (ok : Bool) (v : A) → (checked ok v ≡ refused 3) ↔ (ok ≡ false)
  three_says ok v = (λ e. both (true_or_false ok) (λ t. not_both v (sym e ∙ sym (passed ok v t))) (λ t. t), λ t. sym (stopped ok v t))

-- ---- contains
module _ (a : Point) (ea : End) (b : Point) (eb : End) (p : Point) where
  pub containment_decides : (containment a ea b eb p ≡ answered true) ↔ ((proper a b ≡ true) × (near_point p ≡ true) × Contains a ea b eb p)
  containment_decides =
      let y = value_says (proper a b && near_point p) (contains a ea b eb p) true in
      let d = contains_decides a ea b eb p in (
        λ e. (and_left (proper a b) (near_point p) (y.0 e).0, and_right (proper a b) (near_point p) (y.0 e).0, d.0 (y.0 e).1),
        λ h. y.1 (both_true h.0 h.1, d.1 h.2),
      )

  pub containment_refuses : (containment a ea b eb p ≡ refused 3) ↔ ((proper a b && near_point p) ≡ false)
  containment_refuses = three_says (proper a b && near_point p) (contains a ea b eb p)

-- ---- two segments
module _ (a a' b b' : Point) where
  -- an answer of two segments says what its value says of segments with different ends
  segments_decide : {A : Type 0} {P : Type 0} (v w : A) → (a ≢ a' → b ≢ b' → (v ≡ w) ↔ P) → (checked (proper a a' && proper b b') v ≡ answered w) ↔ ((proper a a' ≡ true) × (proper b b' ≡ true) × P)
  segments_decide {P = P} v w d =
      let y = value_says (proper a a' && proper b b') v w in (
        λ e. (let p = and_left (proper a a') (proper b b') (y.0 e).0 in let q = and_right (proper a a') (proper b b') (y.0 e).0 in (p, q, (decides p q).0 (y.0 e).1)),
        λ h. y.1 (both_true h.0 h.1, (decides h.0 h.1).1 h.2),
      )
    where
      decides : proper a a' ≡ true → proper b b' ≡ true → (v ≡ w) ↔ P
      decides p q = d ((proper_decides a a').0 p).2 ((proper_decides b b').0 q).2

  -- how they meet
  pub contact_decides : (k : Kind) → (contact a a' b b' ≡ answered k) ↔ ((proper a a' ≡ true) × (proper b b' ≡ true) × HasKind a a' b b' k)
  contact_decides k = segments_decide (kind a a' b b') k (λ na nb. kind_decides a a' b b' na nb k)

  pub contact_refuses : (contact a a' b b' ≡ refused 3) ↔ ((proper a a' && proper b b') ≡ false)
  contact_refuses = three_says (proper a a' && proper b b') (kind a a' b b')

  -- whether they do
  pub meeting_decides : (meeting a a' b b' ≡ answered true) ↔ ((proper a a' ≡ true) × (proper b b' ≡ true) × Meet a a' b b')
  meeting_decides = segments_decide (meets a a' b b') true (meets_decides a a' b b')

  pub meeting_refuses : (meeting a a' b b' ≡ refused 3) ↔ ((proper a a' && proper b b') ≡ false)
  meeting_refuses = three_says (proper a a' && proper b b') (meets a a' b b')

-- where a contact is answered, the meeting is whether its kind is not none; else both are refused
abbrev pub met : Answer Kind → Answer Bool
met (refused n) = refused n
met (answered k) = answered (some_contact k)

pub meeting_is : (a a' b b' : Point) → met (contact a a' b b') ≡ meeting a a' b b'
meeting_is a a' b b' = both (true_or_false (proper a a' && proper b b')) (λ t. rw t (ap answered (meets_is a a' b b'))) (λ t. rw t)
