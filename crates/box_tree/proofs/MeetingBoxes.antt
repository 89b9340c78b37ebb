-- Segments that meet have boxes that share a place.
use mathlib.Core.Path.{◌≡◌, sym, ◌∙◌}
use mathlib.Core.Bool.{true}
use mathlib.Core.List.{[], ◌∷◌}
use mathlib.Core.Logic.{◌≢◌}
use lib.IntN.{ℤ, pos, ◌-ℤ◌, ◌+ℤ◌, ◌*ℤ◌}
use lib.Signed.{le_z, ◌≤ℤ◌, ◌<ℤ◌}
use native.Mathlib.Omega.{arith}
use Rattle.std.proofs.lemmas.Int.{ints, clamps}
use Rattle.std.specs.Int.{int_min, int_max}
use Rattle.algebra.specs.Polynomials.{lit, ◌:+◌, ◌:-◌, ◌:*◌, hyp}
use Rattle.algebra.specs.Identities.{follows, num, ◌:=◌, ◌⇐◌}
use Rattle.algebra.specs.Order.{mul_pos, mul_nonneg, ≤ℤ-or-<}
use Rattle.algebra.specs.Cases.{both}
use Rattle.geometry.specs.Plane.{Point}
use Rattle.geometry.specs.Segment.{way, CommonPlace}
use Rattle.geometry.specs.Contact.{kind, some_contact}
use Rattle.geometry.proofs.Places.{way_of_edge}
use Rattle.geometry.proofs.Lines.{gap_pos, gap_le}
use Rattle.geometry.proofs.Meeting.{meets_decides}
use Rattle.geometry.proofs.Contacts.{meets_is}
use Rattle.box_tree.specs.Boxes.{span, share}

-- Two segments have a place in common. In one coordinate: where m is below the ends of the one, and k above those of the other, m is not above k.
no_gap : (d s t u v w z m k : ℤ) → pos 0 <ℤ d → pos 0 ≤ℤ s → s ≤ℤ d → pos 0 ≤ℤ t → t ≤ℤ d → way d s u v ≡ way d t w z →
    m ≤ℤ u → m ≤ℤ v → w ≤ℤ k → z ≤ℤ k → m ≤ℤ k
no_gap d s t u v w z m k d> s≥ s≤ t≥ t≤ e mu mv wk zk =
    both (≤ℤ-or-< m k) (λ h. h)
    (λ h. absurd (let sum = weighed d s t u v w z m k e in
    let above = mul_pos d> (gap_pos k m h) in
    let first = mul_nonneg (gap_le s d s≤) (gap_le m u mu) in
    let second = mul_nonneg s≥ (gap_le m v mv) in
    let third = mul_nonneg (gap_le t d t≤) (gap_le w k wk) in
    let fourth = mul_nonneg t≥ (gap_le z k zk) in
    omega (arith, ints)))
  where
    weighed : (d s t u v w z m k : ℤ) → way d s u v ≡ way d t w z →
        d *ℤ (m -ℤ k) +ℤ (((d -ℤ s) *ℤ (u -ℤ m) +ℤ s *ℤ (v -ℤ m)) +ℤ ((d -ℤ t) *ℤ (k -ℤ w) +ℤ t *ℤ (k -ℤ z))) ≡ pos 0
    weighed = follows (num ∷ num ∷ num ∷ num ∷ num ∷ num ∷ num ∷ num ∷ num ∷ [])
        (λ d s t u v w z m k. (d :* (m :- k) :+ (((d :- s) :* (u :- m) :+ s :* (v :- m)) :+ ((d :- t) :* (k :- w) :+ t :* (k :- z))) := lit (pos 0)) ⇐
        (hyp (lit (pos 1)) (way_of_edge d s u v) (way_of_edge d t w z) ∷ [])) tt

-- so the least of the one is not above the greatest of the other
side : (d s t u v w z : ℤ) → pos 0 <ℤ d → pos 0 ≤ℤ s → s ≤ℤ d → pos 0 ≤ℤ t → t ≤ℤ d → way d s u v ≡ way d t w z →
    le_z (int_min u v) (int_max w z) ≡ true
side d s t u v w z d> s≥ s≤ t≥ t≤ e =
    let h = no_gap d s t u v w z (int_min u v) (int_max w z) d> s≥ s≤ t≥ t≤ e
    (omega (arith, ints, clamps)) (omega (arith, ints, clamps)) (omega (arith, ints, clamps)) (omega (arith, ints, clamps)) in
    grind (arith, ints)

-- in both coordinates, and both ways round
place_shares : (a a' b b' : Point) → CommonPlace a a' b b' → share (span a a') (span b b') ≡ true
unfolding share span
place_shares a a' b b' m = rw (
  side m.d m.s m.t a.x a'.x b.x b'.x m.d> m.s≥ m.s≤ m.t≥ m.t≤ m.at_x,
  side m.d m.t m.s b.x b'.x a.x a'.x m.d> m.t≥ m.t≤ m.s≥ m.s≤ (sym m.at_x),
  side m.d m.s m.t a.y a'.y b.y b'.y m.d> m.s≥ m.s≤ m.t≥ m.t≤ m.at_y,
  side m.d m.t m.s b.y b'.y a.y a'.y m.d> m.t≥ m.t≤ m.s≥ m.s≤ (sym m.at_y),
)

-- SEGMENTS IN CONTACT HAVE BOXES THAT SHARE A PLACE.
pub meets_shares : (a a' b b' : Point) → a ≢ a' → b ≢ b' → some_contact (kind a a' b b') ≡ true → share (span a a') (span b b') ≡ true
meets_shares a a' b b' na nb t = place_shares a a' b b' ((meets_decides a a' b b' na nb).0 (sym (meets_is a a' b b') ∙ t)).place
