-- A start is accepted: the checks find nothing exactly where the buffers are long enough, the picks few enough, the points are within the limits, the ring names
-- each point once, no two points are equal, there are three, and not all lie on one line. Then demand 3 holds.
use mathlib.Core.Path.{◌≡◌, refl, sym, ap, ◌∙◌}
use mathlib.Core.Bool.{Bool, true, false, not, cond}
use mathlib.Core.List.{List, [], ◌++◌}
use mathlib.Core.Logic.{◌↔◌, ◌⊎◌, inl, inr}
use Prim.Native.Nat.{ℕ, ◌≤◌, ◌<◌}
use native.Mathlib.Omega.{arith}
use native.Mathlib.Nat.{mod-lt}
use lib.Dec.{ltb}
use lib.ListN.{length, length-append}
use borrow.Author.Tests.{ltb-false, le-ltb}
use Rattle.geometry.specs.Plane.{Point, eq_point, near_point}
use Rattle.algebra.specs.Cases.{both, true_or_false, never, not_false}
use Rattle.geometry.proofs.Points.{eq_point_true, eq_point_same}
use Rattle.machine.specs.Machine.{State, place, after}
use Rattle.machine.specs.Answer.{answer, call, in_range, none_alike, refusal, too_many}
use Rattle.polygon.specs.Ring.{each_once, IsRing}
use Rattle.machine.specs.Board.{AllOnLine, is_straight_line, Distinct, Board}
use Rattle.machine.specs.Demand3.{Demand3, Picks, last_pairs}
use Rattle.polygon.proofs.EachOnce.{each_ring, ring_each}
use Rattle.machine.proofs.Demand3Holds.{demand3}
use Rattle.machine.proofs.Corners.{straight_line, line_straight, has_corner}
use Rattle.algebra.specs.Ranges.{all_below, all_true, true_all, by_order}

pub record Accepted (n : ℕ) (pt : ℕ → Point) (short many : Bool) (r : List ℕ) : Type 0 where
  pub few : n ≤ 256
  pub long : short ≡ false
  pub few_picks : many ≡ false
  pub range : (i : ℕ) → i < n → near_point (pt i) ≡ true
  pub ring : IsRing n r
  pub board : Board n pt

-- the number, by the checks
abbrev of_checks : (a b m c d e f g : Bool) → ℕ
of_checks a b m c d e f g = cond a 1 (cond b 2 (cond m 19 (cond c 3 (cond d 4 (cond e 5 (cond f 6 (cond g 7 0)))))))

by_checks : (a b m c d e f g : Bool) → (of_checks a b m c d e f g ≤ 7) ⊎ ((of_checks a b m c d e f g ≡ 19) × (m ≡ true))
by_checks true b m c d e f g = inl (omega arith)
by_checks false true m c d e f g = inl (omega arith)
by_checks false false true c d e f g = inr (refl, refl)
by_checks false false false true d e f g = inl (omega arith)
by_checks false false false false true e f g = inl (omega arith)
by_checks false false false false false true f g = inl (omega arith)
by_checks false false false false false false true g = inl (omega arith)
by_checks false false false false false false false true = inl (omega arith)
by_checks false false false false false false false false = inl (omega arith)

module _ (n : ℕ) (pt : ℕ → Point) where
  pub alike_distinct : none_alike n pt ≡ true → Distinct n pt
  alike_distinct h =
      by_order n (λ i j. pt i ≡ pt j) (λ i j e. sym e)
      (λ i j ji l e. never (not (eq_point (pt j) (pt i))) (all_true i (λ j. not (eq_point (pt j) (pt i))) (all_true n (λ i. all_below i (λ j. not (eq_point (pt j) (pt i)))) h i l) j ji) (rw (eq_point_same (pt j) (pt i) e)))

  distinct_alike : Distinct n pt → none_alike n pt ≡ true
  distinct_alike di =
      true_all n _ (λ i l. true_all i _ (λ j k. both (true_or_false (eq_point (pt j) (pt i))) (λ t. absurd (let z = di j i (omega arith) l (eq_point_true (pt j) (pt i) t) in omega arith)) (λ t. rw t)))

  module _ (short many : Bool) (r : List ℕ) where
    peel : (b : Bool) (k x : ℕ) → 0 < k → cond b k x ≡ 0 → (b ≡ false) × (x ≡ 0)
    peel true k x h e = absurd (omega arith)
    peel false k x h e = (refl, e)

    pub accepted : (refusal n pt short many r ≡ 0) ↔ Accepted n pt short many r
    accepted = (is, if)
      where
        is : refusal n pt short many r ≡ 0 → Accepted n pt short many r
        is h =
            let (h1, k1) = peel (ltb 256 n) 1 _ (omega arith) h in
            let (h2, k2) = peel short 2 _ (omega arith) k1 in
            let (h19, k19) = peel many 19 _ (omega arith) k2 in
            let (h3, k3) = peel (not (in_range n pt)) 3 _ (omega arith) k19 in
            let (h4, k4) = peel (not (each_once n r)) 4 _ (omega arith) k3 in
            let (h5, k5) = peel (not (none_alike n pt)) 5 _ (omega arith) k4 in
            let (h6, k6) = peel (ltb n 3) 6 _ (omega arith) k5 in
            let (h7, k7) = peel (all_below n (is_straight_line n pt r)) 7 0 (omega arith) k6 in
            let ring = each_ring n r (not_false _ h4) in
            let di = alike_distinct (not_false _ h5) in
            let three = ltb-false n 3 h6 in
            record {
              few = ltb-false 256 n h1;
              long = h2;
              few_picks = h19;
              range = all_true n (λ i. near_point (pt i)) (not_false _ h3);
              ring = ring;
              board = record {
                three = three;
                distinct = di;
                not_line = λ al. never (all_below n (is_straight_line n pt r)) (true_all n _ (λ i l. line_straight n pt three di r ring al i l)) h7;
              };
            }

        if : Accepted n pt short many r → refusal n pt short many r ≡ 0
        if a =
            let three = a.board.three in
            let corner : all_below n (is_straight_line n pt r) ≡ false
            = both (true_or_false (all_below n (is_straight_line n pt r)))
            (λ t. absurd (a.board.not_line (straight_line n pt three a.board.distinct r a.ring (all_true n (is_straight_line n pt r) t))))
            (λ t. t) in
            rw (
              le-ltb 256 n a.few,
              a.long,
              a.few_picks,
              true_all n (λ i. near_point (pt i)) a.range,
              ring_each n r a.ring,
              distinct_alike a.board.distinct,
              le-ltb n 3 three,
              corner,
            )

    -- The number is at most 7, or 19 where there are too many picks.
    pub seven_or_nineteen : (refusal n pt short many r ≤ 7) ⊎ ((refusal n pt short many r ≡ 19) × (many ≡ true))
    seven_or_nineteen = by_checks (ltb 256 n) short many (not (in_range n pt)) (not (each_once n r)) (not (none_alike n pt)) (ltb n 3) (all_below n (is_straight_line n pt r))

    -- Demand 3 for every accepted start, every choice of the record that a pick takes, and every list of picks.
    pub demand3_accepted : refusal n pt short many r ≡ 0 → (w : ℕ → State → ℕ) → Picks w → (cs : List ℕ) → Demand3 n pt w cs r
    demand3_accepted h w picks cs = demand3 n pt (accepted.0 h).board w picks cs r (accepted.0 h).ring

-- the document's choice is one
pub place_picks : Picks place
place_picks c s h = mod-lt c h

-- So for each call that no check refuses.
pub demand3_call : (n : ℕ) (pt : ℕ → Point) (short : Bool) (r cs : List ℕ) → refusal n pt short (too_many cs) r ≡ 0
    → (call n pt short r cs ≡ answer n pt r (after n pt place cs r)) × Demand3 n pt place cs r
demand3_call n pt short r cs h = (rw h, demand3_accepted n pt short (too_many cs) r h place place_picks cs)

-- Few enough picks are as none: the check of their count reads nothing else, and no other check reads them.
pub few_as_none : (n : ℕ) (pt : ℕ → Point) (short : Bool) (r cs : List ℕ) → length cs ≤ 1000000 → refusal n pt short (too_many cs) r ≡ refusal n pt short false r
few_as_none n pt short r cs few = ap (λ (b : Bool). refusal n pt short b r) (le-ltb 1000000 (length cs) few)

-- Every longer list with the same beginning, of at most 1,000,000 picks, is answered as the beginning is where that delivers a loop.
pub longer_call : (n : ℕ) (pt : ℕ → Point) (short : Bool) (r cs more : List ℕ) → length (cs ++ more) ≤ 1000000 → refusal n pt short (too_many cs) r ≡ 0
    → last_pairs n pt place cs r ≡ [] → call n pt short r (cs ++ more) ≡ call n pt short r cs
longer_call n pt short r cs more few h none =
    let l : length cs ≤ 1000000 = omega (arith, few, length-append cs more) in
    let k : refusal n pt short (too_many (cs ++ more)) r ≡ 0 = few_as_none n pt short r (cs ++ more) few ∙ sym (few_as_none n pt short r cs l) ∙ h in
    (demand3_call n pt short r (cs ++ more) k).0 ∙ (demand3_call n pt short r cs h).1.longer more none ∙ sym (demand3_call n pt short r cs h).0

-- Refusal 7 exactly when all points are collinear, whatever the ring.
pub refusal_7 : (n : ℕ) (pt : ℕ → Point) → 3 ≤ n → Distinct n pt → (r : List ℕ) → IsRing n r → (all_below n (is_straight_line n pt r) ≡ true) ↔ AllOnLine n pt
refusal_7 n pt three di r ring = (
  λ t. straight_line n pt three di r ring (all_true n (is_straight_line n pt r) t),
  λ al. true_all n _ (λ i l. line_straight n pt three di r ring al i l),
)

-- A start that is not refused keeps a corner after every move.
pub corner_after : (n : ℕ) (pt : ℕ → Point) (short many : Bool) (r : List ℕ) → refusal n pt short many r ≡ 0 → (w : ℕ → State → ℕ) → Picks w → (cs : List ℕ)
    → (i : ℕ) × (i < n) × (is_straight_line n pt (after n pt w cs r).now.ring i ≡ false)
corner_after n pt short many r h w picks cs =
    let a = (accepted n pt short many r).0 h in
    has_corner n pt a.board.three a.board.distinct _ (demand3_accepted n pt short many r h w picks cs).ring a.board.not_line
