-- The checks in the order of the code are those of the definition.
use mathlib.Core.Path.{◌≡◌, refl, sym, ap, ◌∙◌}
use mathlib.Core.Bool.{Bool, true, false, not, cond}
use mathlib.Core.List.{List, [], ◌∷◌}
use Prim.Native.Nat.{ℕ, zero, suc, ◌-◌, ◌≤◌, ◌<◌}
use native.Mathlib.Omega.{arith}
use native.Mathlib.Nat.{sub-zero}
use lib.Dec.{ltb}
use lib.IntN.{ℤ}
use lib.ListN.{length, get_or, take}
use lib.Seq.{length-take-le}
use borrow.Author.Tests.{ltb-false}
use Rattle.algebra.specs.Cases.{both, eq_cases, or_parts, and_left, and_right, not_false, true_or_false}
use Rattle.algebra.specs.Ranges.{all_below, all_true, up_from}
use Rattle.geometry.specs.Plane.{Point, near_point, near}
use Rattle.geometry.specs.Lent.{points, Lent, coord}
use Rattle.polygon.specs.Ring.{at, each_once, IsRing}
use Rattle.polygon.proofs.Index.{list_at, first_ring}
use Rattle.polygon.proofs.EachOnce.{each_ring, ring_each}
use Rattle.machine.specs.Board.{is_straight_line, Distinct}
use Rattle.machine.specs.Answer.{in_range, none_alike, refusal}
use Rattle.machine.proofs.Accepted.{alike_distinct}
use Rattle.geometry.specs.Spots.{spots}
use Rattle.geometry.specs.declared.lent.Points.{Points}
use Rattle.checks.specs.Checks.{any_below, early, first_four, first_six, late, WithRing, Of}
use Rattle.std.proofs.Common.{Bor}

-- what is told of a part that starts at 0 and of its length is told of the first n entries
pub of_first : {B : Type 0} (f : ℕ → List ℕ → B) (n : ℕ) (l : List ℕ) → n ≤ length l → f (length (take (n - 0) l)) (take (n - 0) l) ≡ f n (take n l)
of_first f n l h = ap (λ k. f (length (take k l)) (take k l)) (sub-zero n) ∙ ap (λ k. f k (take n l)) (length-take-le n l h)

-- ---- the number of the first check that fails
abbrev one_to_three : Bool → Bool → Bool → Bool → ℕ → ℕ
one_to_three b1 b2 b19 b3 k = cond b1 1 (cond b2 2 (cond b19 19 (cond b3 3 k)))

abbrev five_six : Bool → Bool → ℕ → ℕ
five_six b5 b6 k = cond b5 5 (cond b6 6 k)

early_few : (b1 b2 b19 b3 : Bool) → one_to_three b1 b2 b19 b3 0 ≡ 0 → (b1 ≡ false) × (b2 ≡ false) × (b19 ≡ false) × (b3 ≡ false)
early_few true b2 b19 b3 h = absurd (omega arith)
early_few false true b19 b3 h = absurd (omega arith)
early_few false false true b3 h = absurd (omega arith)
early_few false false false true h = absurd (omega arith)
early_few false false false false h = (refl, refl, refl, refl)

at_four : (b1 b2 b19 b3 b4 : Bool) (k : ℕ) → 0 < one_to_three b1 b2 b19 b3 (cond b4 4 0) → one_to_three b1 b2 b19 b3 (cond b4 4 k) ≡ one_to_three b1 b2 b19 b3 (cond b4 4 0)
at_four true b2 b19 b3 b4 k h = refl
at_four false true b19 b3 b4 k h = refl
at_four false false true b3 b4 k h = refl
at_four false false false true b4 k h = refl
at_four false false false false true k h = refl
at_four false false false false false k h = absurd (omega arith)

four_few : (b1 b2 b19 b3 b4 : Bool) → one_to_three b1 b2 b19 b3 (cond b4 4 0) ≡ 0 → (one_to_three b1 b2 b19 b3 0 ≡ 0) × (b4 ≡ false)
four_few true b2 b19 b3 b4 h = absurd (omega arith)
four_few false true b19 b3 b4 h = absurd (omega arith)
four_few false false true b3 b4 h = absurd (omega arith)
four_few false false false true b4 h = absurd (omega arith)
four_few false false false false true h = absurd (omega arith)
four_few false false false false false h = (refl, refl)

six_few : (b1 b2 b19 b3 b4 b5 b6 : Bool) → one_to_three b1 b2 b19 b3 (cond b4 4 (five_six b5 b6 0)) ≡ 0 → (one_to_three b1 b2 b19 b3 (cond b4 4 0) ≡ 0) × (five_six b5 b6 0 ≡ 0)
six_few true b2 b19 b3 b4 b5 b6 h = absurd (omega arith)
six_few false true b19 b3 b4 b5 b6 h = absurd (omega arith)
six_few false false true b3 b4 b5 b6 h = absurd (omega arith)
six_few false false false true b4 b5 b6 h = absurd (omega arith)
six_few false false false false true b5 b6 h = absurd (omega arith)
six_few false false false false false b5 b6 h = (refl, h)

six_least : (b1 b2 b3 b4 b5 b6 : Bool) → one_to_three b1 b2 false b3 (cond b4 4 (five_six b5 b6 0)) ≤ 6
six_least true b2 b3 b4 b5 b6 = omega arith
six_least false true b3 b4 b5 b6 = omega arith
six_least false false true b4 b5 b6 = omega arith
six_least false false false true b5 b6 = omega arith
six_least false false false false true b6 = omega arith
six_least false false false false false true = omega arith
six_least false false false false false false = omega arith

at_six : (b1 b2 b19 b3 b4 b5 b6 : Bool) (k : ℕ) → 0 < one_to_three b1 b2 b19 b3 (cond b4 4 (five_six b5 b6 0)) → one_to_three b1 b2 b19 b3 (cond b4 4 (five_six b5 b6 k)) ≡ one_to_three b1 b2 b19 b3 (cond b4 4 (five_six b5 b6 0))
at_six true b2 b19 b3 b4 b5 b6 k h = refl
at_six false true b19 b3 b4 b5 b6 k h = refl
at_six false false true b3 b4 b5 b6 k h = refl
at_six false false false true b4 b5 b6 k h = refl
at_six false false false false true b5 b6 k h = refl
at_six false false false false false true b6 k h = refl
at_six false false false false false false true k h = refl
at_six false false false false false false false k h = absurd (omega arith)

late_few : (b5 b6 : Bool) → five_six b5 b6 0 ≡ 0 → (b5 ≡ false) × (b6 ≡ false)
late_few true b6 h = absurd (omega arith)
late_few false true h = absurd (omega arith)
late_few false false h = (refl, refl)

at_late : (b5 b6 : Bool) (k : ℕ) → 0 < five_six b5 b6 0 → five_six b5 b6 k ≡ five_six b5 b6 0
at_late true b6 k h = refl
at_late false true k h = refl
at_late false false k h = absurd (omega arith)

after_late : (b5 b6 : Bool) (k : ℕ) → five_six b5 b6 0 ≡ 0 → five_six b5 b6 k ≡ k
after_late true b6 k h = absurd (omega arith)
after_late false true k h = absurd (omega arith)
after_late false false k h = refl

module _ (n : ℕ) (pt : ℕ → Point) (s m : Bool) (r : List ℕ) where
  abbrev line : ℕ
  line = cond (all_below n (is_straight_line n pt r)) 7 0

  abbrev from_four : ℕ
  from_four = cond (not (each_once n r)) 4 (five_six (not (none_alike n pt)) (ltb n 3) line)

  pub refused_four : 0 < first_four n pt s m r → refusal n pt s m r ≡ first_four n pt s m r
  refused_four = at_four (ltb 256 n) s m (not (in_range n pt)) (not (each_once n r)) (five_six (not (none_alike n pt)) (ltb n 3) line)

  -- so do the first six
  pub six_by_four : 0 < first_four n pt s m r → first_six n pt s m r ≡ first_four n pt s m r
  six_by_four = at_four (ltb 256 n) s m (not (in_range n pt)) (not (each_once n r)) (five_six (not (none_alike n pt)) (ltb n 3) 0)

  pub four_passed : first_four n pt s m r ≡ 0 → (early n pt s m ≡ 0) × (each_once n r ≡ true)
  four_passed h = let k = four_few (ltb 256 n) s m (not (in_range n pt)) (not (each_once n r)) h in (k.0, not_false _ k.1)

  -- what passes all six passes the first four, and those behind them
  pub six_passed : first_six n pt s m r ≡ 0 → (first_four n pt s m r ≡ 0) × (late n pt ≡ 0)
  six_passed = six_few (ltb 256 n) s m (not (in_range n pt)) (not (each_once n r)) (not (none_alike n pt)) (ltb n 3)

  -- the first six refuse with the number of all checks
  pub refused_by_six : 0 < first_six n pt s m r → refusal n pt s m r ≡ first_six n pt s m r
  refused_by_six = at_six (ltb 256 n) s m (not (in_range n pt)) (not (each_once n r)) (not (none_alike n pt)) (ltb n 3) line

  -- what passes all checks passes the first six
  pub six_of_all : refusal n pt s m r ≡ 0 → first_six n pt s m r ≡ 0
  six_of_all h = both (eq_cases (first_six n pt s m r) 0) (λ z. z.0) (λ z. absurd (let same = refused_by_six (omega (arith, z.0)) in omega (arith, same, h, z.0)))

  -- where there are not too many picks their number is at most 6
  pub six_small : first_six n pt s false r ≤ 6
  six_small = six_least (ltb 256 n) s (not (in_range n pt)) (not (each_once n r)) (not (none_alike n pt)) (ltb n 3)

  module _ (h : first_six n pt s m r ≡ 0) where
    pub six_ring : IsRing n r
    six_ring = each_ring n r (four_passed (six_passed h).0).1

    pub six_distinct : Distinct n pt
    six_distinct = alike_distinct n pt (not_false _ (late_few (not (none_alike n pt)) (ltb n 3) (six_passed h).1).0)

    pub six_three : 3 ≤ n
    six_three = ltb-false n 3 (late_few (not (none_alike n pt)) (ltb n 3) (six_passed h).1).1

  -- the checks before that of the ring pass
  module _ (ok : early n pt s m ≡ 0) where
    rest : refusal n pt s m r ≡ from_four
    rest = let (a, b, d, c) = early_few (ltb 256 n) s m (not (in_range n pt)) ok in (λ i. one_to_three (a i) (b i) (d i) (c i) from_four)

    module _ (each : each_once n r ≡ true) where
      passed : refusal n pt s m r ≡ five_six (not (none_alike n pt)) (ltb n 3) line
      passed = rest ∙ ap (λ (t : Bool). cond (not t) 4 (five_six (not (none_alike n pt)) (ltb n 3) line)) each

      pub refused_late : 0 < late n pt → refusal n pt s m r ≡ late n pt
      refused_late h = passed ∙ at_late (not (none_alike n pt)) (ltb n 3) line h

      pub refused_line_lem : late n pt ≡ 0 → {b : Bool} → b ≡ all_below n (is_straight_line n pt r) → refusal n pt s m r ≡ cond b 7 0
      refused_line_lem h e = passed ∙ after_late (not (none_alike n pt)) (ltb n 3) line h ∙ ap (λ (t : Bool). cond t 7 0) (sym e)

-- with more than 256 points the lengths do not matter
pub same_refusal : (n : ℕ) (pt : ℕ → Point) (s t m : Bool) (r : List ℕ) → (n ≤ 256 → s ≡ t) → refusal n pt s m r ≡ refusal n pt t m r
same_refusal n pt s t m r h = both (true_or_false (ltb 256 n)) (λ e. rw e refl) (λ e. ap (λ (b : Bool). refusal n pt b m r) (h (ltb-false 256 n e)))

pub lent_of : {n : ℕ} {x y : List ℤ} → n ≤ 256 → n ≤ length x → n ≤ length y → in_range n (points x y) ≡ true → Lent n x y
lent_of {n} {x} {y} few lx ly z = record {
  few = few;
  lx = lx;
  ly = ly;
  nx = λ i l. and_left (near (coord x i)) (near (coord y i)) (all_true n (λ i. near_point (points x y i)) z i l);
  ny = λ i l. and_right (near (coord x i)) (near (coord y i)) (all_true n (λ i. near_point (points x y i)) z i l);
}

-- ---- what is told of the points of a call is told of those that are lent
module _ {n : ℕ} {x y : Bor (List ℤ)} (p : Points) (o : Of n x y p) where
  pub same_late : late p.n (spots p) ≡ late n (points x.now y.now)
  same_late = λ t. late (o.0 t) (points (o.1 t).now (o.2 t).now)

  pub same_line : (r : ℕ → List ℕ) → all_below p.n (is_straight_line p.n (spots p) (r p.n)) ≡ all_below n (is_straight_line n (points x.now y.now) (r n))
  same_line r = λ t. all_below (o.0 t) (is_straight_line (o.0 t) (points (o.1 t).now (o.2 t).now) (r (o.0 t)))

-- ---- the numbers of a call that is lent points and a ring to be read
module _ (n : ℕ) (x y : Bor (List ℤ)) (r : List ℕ) where
  -- check 2 of it
  abbrev ring_short : Bool
  ring_short = any_below n (length x.now ∷ length y.now ∷ length r ∷ [])

  -- with more than 256 points the lengths do not matter
  same_four : {s m : Bool} → (n ≤ 256 → s ≡ ring_short) → m ≡ false → first_four n (points x.now y.now) s m (take n r) ≡ first_four n (points x.now y.now) ring_short false (take n r)
  same_four h e = grind arith

  same_six : {s m : Bool} → (n ≤ 256 → s ≡ ring_short) → m ≡ false → first_six n (points x.now y.now) s m (take n r) ≡ first_six n (points x.now y.now) ring_short false (take n r)
  same_six h e = grind arith

  module _ {gn : ℕ} {gx gy : Bor (List ℤ)} {short many : Bool} (w : WithRing n x y r gn gx gy short many) where
    pub four_given : first_four gn (points gx.now gy.now) short many (take gn r) ≡ first_four n (points x.now y.now) ring_short false (take n r)
    four_given = (λ t. first_four (w.size t) (points (w.in_x t).now (w.in_y t).now) short many (take (w.size t) r)) ∙ same_four w.lengths w.no_picks

    pub six_given : first_six gn (points gx.now gy.now) short many (take gn r) ≡ first_six n (points x.now y.now) ring_short false (take n r)
    six_given = (λ t. first_six (w.size t) (points (w.in_x t).now (w.in_y t).now) short many (take (w.size t) r)) ∙ same_six w.lengths w.no_picks

    -- the points that pass are those that are lent
    pub of_given : (p : Points) → Of gn gx gy p → Of n x y p
    of_given p o = (o.0 ∙ w.size, o.1 ∙ w.in_x, o.2 ∙ w.in_y)

-- none of the lengths is below the size
pub long : (size : ℕ) (ls : List ℕ) → any_below size ls ≡ false → (i : ℕ) → i < length ls → size ≤ get_or ls i 0
long size [] h i l = absurd (omega arith)
long size (a ∷ ls) h zero l = ltb-false a size (or_parts (ltb a size) (any_below size ls) h).0
long size (a ∷ ls) h (suc i) l = long size ls (or_parts (ltb a size) (any_below size ls) h).1 i (omega arith)

-- ---- the points in their own order
pub in_order_once : (n : ℕ) → each_once n (up_from 0 n) ≡ true
in_order_once n = ring_each n (up_from 0 n) (first_ring n)

pub in_order_told : (n i : ℕ) → i < n → i ≡ at (up_from 0 n) i
in_order_told n i l = sym (list_at 0 n i l ∙ omega arith)
