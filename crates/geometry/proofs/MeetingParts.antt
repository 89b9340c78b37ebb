-- The kind of contact by its parts: on one line and off it, the fourth turn by the other three, and by the sides alone where no turn is zero.
use mathlib.Core.Path.{◌≡◌, refl, sym, ◌∙◌, ap, ap₂, subst}
use mathlib.Core.Bool.{Bool, true, false, not, ◌&&◌}
use mathlib.Core.List.{[], ◌∷◌}
use Prim.Native.Nat.{◌≤◌}
use lib.Dec.{eqb}
use mir.Syntax.{w64}
use mir.Val.{SFits, of_z}
use lib.IntN.{ℤ, pos, ◌+ℤ◌, ◌-ℤ◌, ◌*ℤ◌}
use Rattle.algebra.specs.Polynomials.{◌:+◌, ◌:-◌, ◌:*◌}
use Rattle.algebra.specs.Identities.{ident, pair, ◌:=◌}
use Rattle.algebra.specs.Size.{abs}
use Rattle.algebra.specs.Cases.{both, true_or_false, never}
use Rattle.geometry.specs.Plane.{Point, turn, is_zero, eq_point}
use Rattle.std.specs.Bool.{then_some}
use Rattle.geometry.specs.Segment.{same_side, shared, parallel, overlap}
use Rattle.geometry.specs.Contact.{overlap_of, kind, some_contact}
use Rattle.geometry.specs.Answers.{without_ends}
use Rattle.geometry.specs.declared.line_segment.ContactKind.TheVariants.{Crossing, Overlap}
use Rattle.geometry.specs.Lent.{InRange}
use Rattle.geometry.proofs.Turns.{turn_of_edge}
use Rattle.geometry.proofs.Points.{zero_is, eq_point_true, turn_first, turn_second}
use Rattle.geometry.proofs.Contacts.{meets_is}
use Rattle.geometry.proofs.Reading.{cross_bound, gap_x, gap_y, zero_bits}

-- ---- on one line, and off it
pub on_line : (a b c d : Point) {p q : ℤ} → SFits w64 p → SFits w64 q → p ≡ turn a b c → q ≡ turn a b d → (eqb (of_z w64 p) 0 && eqb (of_z w64 q) 0) ≡ parallel a b c d
on_line a b c d {p} {q} f g ep eq = ap₂ ◌&&◌ (zero_bits p f ∙ ap is_zero ep) (zero_bits q g ∙ ap is_zero eq)

pub kind_on_line : (a b c d : Point) {o : Bool} → o ≡ overlap a b c d → parallel a b c d ≡ true → then_some o Overlap ≡ without_ends (kind a b c d)
unfolding kind overlap_of
kind_on_line a b c d {o} eo e = both (true_or_false o) (λ t. rw (t, e, sym eo ∙ t)) (λ t. rw (t, e, sym eo ∙ t))

pub kind_off_line : (a b c d : Point) → parallel a b c d ≡ false
    → then_some (not (shared a b c d) && (not (same_side (turn a b c) (turn a b d)) && not (same_side (turn c d a) (turn c d b)))) Crossing ≡ without_ends (kind a b c d)
unfolding kind
kind_off_line a b c d e =
    both (true_or_false (not (shared a b c d) && (not (same_side (turn a b c) (turn a b d)) && not (same_side (turn c d a) (turn c d b))))) (λ t. rw (e, t)) (λ t. rw (e, t))

-- ---- the fourth turn
four_turns : (a b c d : Point) → turn c d a +ℤ (turn a b c -ℤ turn a b d) ≡ turn c d b
four_turns = ident (pair ∷ pair ∷ pair ∷ pair ∷ []) (λ a b c d. turn_of_edge c d a :+ (turn_of_edge a b c :- turn_of_edge a b d) := turn_of_edge c d b) tt

gap_turns : (a b c d : Point) → turn a b c -ℤ turn a b d ≡ (b.x -ℤ a.x) *ℤ (c.y -ℤ d.y) -ℤ (b.y -ℤ a.y) *ℤ (c.x -ℤ d.x)
gap_turns = ident (pair ∷ pair ∷ pair ∷ pair ∷ [])
    (λ a b c d. turn_of_edge a b c :- turn_of_edge a b d := (b.ex :- a.ex) :* (c.ey :- d.ey) :- (b.ey :- a.ey) :* (c.ex :- d.ex)) tt

module _ {a b c d : Point} (h : InRange a × InRange b × InRange c × InRange d) {p q r : ℤ} (ep : p ≡ turn a b c) (eq : q ≡ turn a b d) (er : r ≡ turn c d a) where
  pub fourth_is : r +ℤ (p -ℤ q) ≡ turn c d b
  fourth_is = (λ t. er t +ℤ (ep t -ℤ eq t)) ∙ four_turns a b c d

  -- the difference of two turns is itself a cross product of gaps
  pub fourth_fits : (abs (p -ℤ q) ≤ 8000000000000000000) × (abs (r +ℤ (p -ℤ q)) ≤ 8000000000000000000)
  fourth_fits = (
    subst (λ (z : ℤ). abs z ≤ 8000000000000000000) (sym ((λ t. ep t -ℤ eq t) ∙ gap_turns a b c d))
        (cross_bound (b.x -ℤ a.x) (c.y -ℤ d.y) (b.y -ℤ a.y) (c.x -ℤ d.x) (gap_x h.1 h.0 _ refl) (gap_y h.2 h.3 _ refl) (gap_y h.1 h.0 _ refl) (gap_x h.2 h.3 _ refl)),
    subst (λ (z : ℤ). abs z ≤ 8000000000000000000) (sym fourth_is)
        (cross_bound (d.x -ℤ c.x) (b.y -ℤ c.y) (d.y -ℤ c.y) (b.x -ℤ c.x) (gap_x h.3 h.2 _ refl) (gap_y h.1 h.2 _ refl) (gap_y h.3 h.2 _ refl) (gap_x h.1 h.2 _ refl)),
  )

-- ---- with no turn of the first to the second's ends
pub turns_agree : (a c d : Point) → turn a c d ≡ turn c d a
turns_agree = ident (pair ∷ pair ∷ pair ∷ []) (λ a c d. turn_of_edge a c d := turn_of_edge c d a) tt

-- a shared end would be on both lines
unshared : (a b c d : Point) → is_zero (turn a b c) ≡ false → is_zero (turn a b d) ≡ false → shared a b c d ≡ false
unshared a b c d hp hq =
    let first = λ (v : Point) (h : is_zero (turn a b v) ≡ false). apart a v (λ e. ap (turn a b) (sym e) ∙ turn_first a b) h in
    let second = λ (v : Point) (h : is_zero (turn a b v) ≡ false). apart b v (λ e. ap (turn a b) (sym e) ∙ turn_second a b) h in
    rw (first c hp, first d hq, second c hp, second d hq)
  where
    apart : (u v : Point) → (u ≡ v → turn a b v ≡ pos 0) → is_zero (turn a b v) ≡ false → eq_point u v ≡ false
    apart u v at_zero h = both (true_or_false (eq_point u v)) (λ t. never (is_zero (turn a b v)) (zero_is (turn a b v) (at_zero (eq_point_true u v t))) h) (λ t. t)

-- then the sides alone decide
pub crosses_is : (a b c d : Point) {p q r s : ℤ} → p ≡ turn a b c → q ≡ turn a b d → r ≡ turn c d a → s ≡ turn c d b → is_zero p ≡ false → is_zero q ≡ false
    → (not (same_side p q) && not (same_side r s)) ≡ some_contact (kind a b c d)
crosses_is a b c d ep eq er es hp hq =
    let zp = ap is_zero (sym ep) ∙ hp in
    let zq = ap is_zero (sym eq) ∙ hq in
    (λ t. not (same_side (ep t) (eq t)) && not (same_side (er t) (es t)))
    ∙ sym (meets_is a b c d ∙ rw (zp, unshared a b c d zp zq))
