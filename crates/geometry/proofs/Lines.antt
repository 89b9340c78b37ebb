-- Lines: on a line that is not upright the same x is the same place, and on an upright one all have the same x. So point order is the
-- order along the line, and strictly between two ends in point order is strictly inside.
use mathlib.Core.Path.{◌≡◌, sym}
use mathlib.Core.Bool.{true}
use mathlib.Core.List.{[], ◌∷◌}
use mathlib.Core.Logic.{inl, inr, ◌≢◌, ◌↔◌}
use lib.IntN.{ℤ, pos, negsuc, ◌+ℤ◌, ◌-ℤ◌, ◌*ℤ◌}
use lib.Signed.{◌≤ℤ◌, ◌<ℤ◌}
use borrow.Author.Differences.{ints}
use native.Mathlib.Omega.{arith}
use Rattle.algebra.specs.Polynomials.{lit, ◌:+◌, ◌:-◌, ◌:*◌, neg, hyp, sub_zero}
use Rattle.algebra.specs.Identities.{ident, follows, num, pair, ◌:=◌, ◌⇐◌}
use Rattle.algebra.specs.Order.{mul_pos, mul_nonneg}
use Rattle.algebra.specs.Signs.{no_zero}
use Rattle.algebra.specs.Cases.{both, same_test}
use Rattle.geometry.specs.Plane.{Point, turn, collinear, lt_point}
use Rattle.geometry.specs.Segment.{way, Inside, inside}
use Rattle.geometry.proofs.Turns.{turn_of_edge}
use Rattle.geometry.proofs.Places.{way_of_edge, mir, turn_mir}
use Rattle.geometry.proofs.Points.{zero_yes, zero_is, turn_back, lt_int_cases, below_is, is_below, lt_point_trans, lt_point_total, inside_if, inside_is}

pub gap_pos : (p q : ℤ) → p <ℤ q → pos 0 <ℤ (q -ℤ p)
gap_pos p q h = omega (arith, ints)

pub gap_le : (p q : ℤ) → p ≤ℤ q → pos 0 ≤ℤ (q -ℤ p)
gap_le p q h = omega (arith, ints)

-- on a line that is not upright, the same x is the same place
pub same_y : (a a' b : Point) → a.x <ℤ a'.x → turn a a' b ≡ pos 0 → a.x ≡ b.x → a.y ≡ b.y
same_y a a' b la z ex =
    both (no_zero (a'.x -ℤ a.x) (a.y -ℤ b.y) (level a a' b z ex)) (λ k. absurd (omega (arith, ints))) (λ k. sub_zero a.y b.y k)
  where
    level : (a a' b : Point) → turn a a' b ≡ pos 0 → a.x ≡ b.x → (a'.x -ℤ a.x) *ℤ (a.y -ℤ b.y) ≡ pos 0
    level = follows (pair ∷ pair ∷ pair ∷ [])
        (λ a a' b. ((a'.ex :- a.ex) :* (a.ey :- b.ey) := lit (pos 0)) ⇐ (hyp (lit (negsuc 0)) (turn_of_edge a a' b) (lit (pos 0)) ∷ hyp (a'.ey :- a.ey) a.ex b.ex ∷ [])) tt

-- on an upright line all have the same x
pub same_x : (a a' v : Point) → a.x ≡ a'.x → a.y <ℤ a'.y → turn a a' v ≡ pos 0 → v.x ≡ a.x
same_x a a' v e la z =
    both (no_zero (a'.y -ℤ a.y) (v.x -ℤ a.x) (upright a a' v z e)) (λ k. absurd (omega (arith, ints))) (λ k. sub_zero v.x a.x k)
  where
    upright : (a a' v : Point) → turn a a' v ≡ pos 0 → a.x ≡ a'.x → (a'.y -ℤ a.y) *ℤ (v.x -ℤ a.x) ≡ pos 0
    upright = follows (pair ∷ pair ∷ pair ∷ [])
        (λ a a' v. ((a'.ey :- a.ey) :* (v.ex :- a.ex) := lit (pos 0)) ⇐ (hyp (lit (negsuc 0)) (turn_of_edge a a' v) (lit (pos 0)) ∷ hyp (neg (v.ey :- a.ey)) a.ex a'.ex ∷ [])) tt

-- the same at the second end
same_y' : (a b v : Point) → a.x <ℤ b.x → turn a b v ≡ pos 0 → v.x ≡ b.x → v.y ≡ b.y
same_y' a b v la z ex =
    both (no_zero (b.x -ℤ a.x) (v.y -ℤ b.y) (level a b v z ex)) (λ k. absurd (omega (arith, ints))) (λ k. sub_zero v.y b.y k)
  where
    level : (a b v : Point) → turn a b v ≡ pos 0 → v.x ≡ b.x → (b.x -ℤ a.x) *ℤ (v.y -ℤ b.y) ≡ pos 0
    level = follows (pair ∷ pair ∷ pair ∷ [])
        (λ a b v. ((b.ex :- a.ex) :* (v.ey :- b.ey) := lit (pos 0)) ⇐ (hyp (lit (pos 1)) (turn_of_edge a b v) (lit (pos 0)) ∷ hyp (b.ey :- a.ey) v.ex b.ex ∷ [])) tt

-- ---- from the order to the place
by_x : (a b v : Point) → a.x <ℤ v.x → v.x <ℤ b.x → turn a b v ≡ pos 0 → Inside a b v
by_x a b v av vb z = record {
  d = b.x -ℤ a.x;
  s = v.x -ℤ a.x;
  s> = gap_pos a.x v.x av;
  s< = omega (arith, ints);
  at_x = along a.x b.x v.x;
  at_y = across a b v z;
}
  where
    along : (a b v : ℤ) → (b -ℤ a) *ℤ v ≡ way (b -ℤ a) (v -ℤ a) a b
    along = ident (num ∷ num ∷ num ∷ []) (λ a b v. (b :- a) :* v := way_of_edge (b :- a) (v :- a) a b) tt

    across : (a b v : Point) → turn a b v ≡ pos 0 → (b.x -ℤ a.x) *ℤ v.y ≡ way (b.x -ℤ a.x) (v.x -ℤ a.x) a.y b.y
    across = follows (pair ∷ pair ∷ pair ∷ [])
        (λ a b v. ((b.ex :- a.ex) :* v.ey := way_of_edge (b.ex :- a.ex) (v.ex :- a.ex) a.ey b.ey) ⇐ (hyp (lit (pos 1)) (turn_of_edge a b v) (lit (pos 0)) ∷ [])) tt

inside_mir : (a b v : Point) → Inside (mir a) (mir b) (mir v) → Inside a b v
inside_mir a b v m = record { d = m.d; s = m.s; s> = m.s>; s< = m.s<; at_x = m.at_y; at_y = m.at_x }

inside_rev : (a b v : Point) → Inside b a v → Inside a b v
inside_rev a b v m = record {
  d = m.d;
  s = m.d -ℤ m.s;
  s> = gap_pos m.s m.d m.s<;
  s< = let h = m.s> in omega (arith, ints);
  at_x = turned m.d m.s a.x b.x v.x m.at_x;
  at_y = turned m.d m.s a.y b.y v.y m.at_y;
}
  where
    turned : (d s a b v : ℤ) → d *ℤ v ≡ way d s b a → d *ℤ v ≡ way d (d -ℤ s) a b
    turned = follows (num ∷ num ∷ num ∷ num ∷ num ∷ []) (λ d s a b v. (d :* v := way_of_edge d (d :- s) a b) ⇐ (hyp (lit (pos 1)) (d :* v) (way_of_edge d s b a) ∷ [])) tt

in_order : (a b v : Point) → turn a b v ≡ pos 0 → lt_point a v ≡ true → lt_point v b ≡ true → Inside a b v
in_order a b v z av vb =
    both (below_is a b (lt_point_trans a v b av vb))
    (λ h. by_x a b v
    (both (below_is a v av) (λ g. g) (λ g. absurd (let e = same_y a b v h z g.0 in let f = g.1 in omega (arith, ints))))
    (both (below_is v b vb) (λ g. g) (λ g. absurd (let e = same_y' a b v h z g.0 in let f = g.1 in omega (arith, ints))))
    z)
    (λ h. let e = same_x a b v h.0 h.1 z in
    let f = h.0 in
    inside_mir a b v (by_x (mir a) (mir b) (mir v)
    (both (below_is a v av) (λ g. absurd (omega (arith, ints))) (λ g. g.1))
    (both (below_is v b vb) (λ g. absurd (omega (arith, ints))) (λ g. g.1))
    (turn_mir a b v z)))

-- ---- from the place to the order
strictly : (d s u w v : ℤ) → pos 0 <ℤ s → s <ℤ d → d *ℤ v ≡ way d s u w → u <ℤ w → (u <ℤ v) × (v <ℤ w)
strictly d s u w v s> s< e lt =
    let d≥ : pos 0 ≤ℤ d = omega (arith, ints) in
    let p = mul_pos s> (gap_pos u w lt) in
    let q = mul_pos (gap_pos s d s<) (gap_pos u w lt) in (
      both (lt_int_cases u v) (λ h. h.0)
          (λ h. let n = mul_nonneg d≥ (gap_le v u h.0) in let f = low d s u w v e in absurd (omega (arith, ints))),
      both (lt_int_cases v w) (λ h. h.0)
          (λ h. let n = mul_nonneg d≥ (gap_le w v h.0) in let f = high d s u w v e in absurd (omega (arith, ints))),
    )
  where
    low : (d s u w v : ℤ) → d *ℤ v ≡ way d s u w → d *ℤ (u -ℤ v) +ℤ s *ℤ (w -ℤ u) ≡ pos 0
    low = follows (num ∷ num ∷ num ∷ num ∷ num ∷ []) (λ d s u w v. (d :* (u :- v) :+ s :* (w :- u) := lit (pos 0)) ⇐ (hyp (lit (negsuc 0)) (d :* v) (way_of_edge d s u w) ∷ [])) tt

    high : (d s u w v : ℤ) → d *ℤ v ≡ way d s u w → d *ℤ (v -ℤ w) +ℤ (d -ℤ s) *ℤ (w -ℤ u) ≡ pos 0
    high = follows (num ∷ num ∷ num ∷ num ∷ num ∷ []) (λ d s u w v. (d :* (v :- w) :+ (d :- s) :* (w :- u) := lit (pos 0)) ⇐ (hyp (lit (pos 1)) (d :* v) (way_of_edge d s u w) ∷ [])) tt

d_not_zero : {a b v : Point} (m : Inside a b v) → m.d ≡ pos 0 → ⊥
d_not_zero m e = let h = m.s> in let k = m.s< in omega (arith, ints)

on_the_line : (a b v : Point) → Inside a b v → turn a b v ≡ pos 0
on_the_line a b v m = both (no_zero m.d (turn a b v) (times a b v m.d m.s m.at_x m.at_y)) (λ e. absurd (d_not_zero m e)) (λ e. e)
  where
    times : (a b v : Point) (d s : ℤ) → d *ℤ v.x ≡ way d s a.x b.x → d *ℤ v.y ≡ way d s a.y b.y → d *ℤ turn a b v ≡ pos 0
    times = follows (pair ∷ pair ∷ pair ∷ num ∷ num ∷ [])
        (λ a b v d s. (d :* turn_of_edge a b v := lit (pos 0)) ⇐
        (hyp (neg (b.ey :- a.ey)) (d :* v.ex) (way_of_edge d s a.ex b.ex) ∷ hyp (b.ex :- a.ex) (d :* v.ey) (way_of_edge d s a.ey b.ey) ∷ [])) tt

between : (a b v : Point) → lt_point a b ≡ true → Inside a b v → (lt_point a v ≡ true) × (lt_point v b ≡ true)
between a b v l m =
    both (below_is a b l)
    (λ h. let o = strictly m.d m.s a.x b.x v.x m.s> m.s< m.at_x h in (is_below a v (inl o.0), is_below v b (inl o.1)))
    (λ h. let o = strictly m.d m.s a.y b.y v.y m.s> m.s< m.at_y h.1 in
    let e = same_x a b v h.0 h.1 (on_the_line a b v m) in
    let f = h.0 in
    (is_below a v (inr (sym e, o.0)), is_below v b (inr (omega (arith, ints), o.1))))

-- THE LINE: the test of strictly inside, by point order, decides strictly inside
pub inside_decides : (a b v : Point) → a ≢ b → (inside a b v ≡ true) ↔ Inside a b v
inside_decides a b v ne = (
  λ h. (let g = inside_is a b v h in both g.1 (λ o. in_order a b v g.0 o.0 o.1) (λ o. inside_rev a b v (in_order b a v (back g.0) o.0 o.1))),
  λ m. inside_if a b v (on_the_line a b v m) (both (lt_point_total a b ne) (λ l. inl (between a b v l m)) (λ l. inr (between b a v l (inside_rev b a v m)))),
)
  where
    back : turn a b v ≡ pos 0 → turn b a v ≡ pos 0
    back = follows (pair ∷ pair ∷ pair ∷ []) (λ a b v. (turn_of_edge b a v := lit (pos 0)) ⇐ (hyp (lit (negsuc 0)) (turn_of_edge a b v) (lit (pos 0)) ∷ [])) tt a b v

-- three points on one line, read backwards
pub collinear_back : (a b c : Point) → collinear a b c ≡ collinear c b a
collinear_back a b c =
    same_test (collinear a b c) (collinear c b a)
    (λ h. zero_is (turn c b a) (turn_back a b c (zero_yes (turn a b c) h)))
    (λ h. zero_is (turn a b c) (turn_back c b a (zero_yes (turn c b a) h)))
