-- A ring passes exactly when a run with no picks delivers it as it is: both begin with the first six checks; a ring that turn lets pass is not all on one line;
-- with no picks there is no move, so the run delivers where a fresh search finds nothing, which contact asks; and it reverses the rings that turn refuses.
use mathlib.Core.Path.{◌≡◌, refl, sym, ◌∙◌, ap, subst}
use mathlib.Core.Bool.{Bool, true, false, not, cond}
use mathlib.Core.List.{List, []}
use mathlib.Core.Logic.{◌⊎◌, inl, inr, ◌↔◌}
use Prim.Native.Nat.{ℕ, ◌-◌, ◌<◌}
use native.Mathlib.Omega.{arith}
use lib.Dec.{eqb}
use lib.IntN.{pos}
use lib.ListN.{length}
use Rattle.std.proofs.lemmas.List.{nil_from_length}
use lib.Signed.{◌<ℤ◌}
use borrow.Author.Differences.{ints}
use Rattle.algebra.specs.Cases.{both, eq_cases, true_or_false, never}
use Rattle.algebra.specs.Ranges.{all_below, all_true}
use Rattle.geometry.specs.Plane.{Point}
use Rattle.geometry.proofs.Points.{lt_int_cases, zero_yes}
use Rattle.intersection_set.specs.Store.{Rec}
use Rattle.machine.specs.Board.{turn_at, is_straight_line}
use Rattle.machine.specs.Machine.{fresh, after, place}
use Rattle.machine.specs.Answer.{Answer, refused as refused_call, unfinished, delivered, least_to, counter_clockwise, finish, answer, refusal, call}
use Rattle.machine.specs.Demand3.{Least, Demand3}
use Rattle.machine.proofs.Accepted.{Accepted, accepted, demand3_call}
use Rattle.machine.proofs.Corners.{ring_apart}
use Rattle.machine.proofs.Finish.{least_one, least_found}
use Rattle.checks.specs.Checks.{first_six}
use Rattle.checks.proofs.Least.{least_lt}
use Rattle.checks.proofs.Checking.{six_passed, six_three, six_of_all, four_passed, refused_line_lem}
use Rattle.validate.specs.Drawn.{Check, passed, refused, meeting, contact, turn_and_contact, check}
use Rattle.validate.proofs.Fresh.{contact_fresh}

-- ---- what is found behind them
abbrev pub refuses : Check → Bool
refuses passed = false
refuses (refused k) = true
refuses (meeting i j) = false

-- a check by number that refuses nothing
numbered : (k : ℕ) (c d : Check) → refuses d ≡ false → cond (eqb k 0) c (refused k) ≡ d → (k ≡ 0) × (c ≡ d)
numbered k c d f h = both (eq_cases k 0) (λ (z, t). (z, rw t at h)) (λ (nz, t). never (refuses d) (let e : refused k ≡ d = rw t at h in ap refuses (sym e)) f)

turned : (b : Bool) (c d : Check) → refuses d ≡ false → cond (not b) (refused 14) c ≡ d → (b ≡ true) × (c ≡ d)
turned true c d f h = (refl, h)
turned false c d f h = never (refuses d) (ap refuses (sym h)) f

-- ---- answers
abbrev pub ring_of : Answer → List ℕ
ring_of (refused_call k) = []
ring_of (unfinished r m c) = []
ring_of (delivered r m c) = r

abbrev pub is_delivered : Answer → Bool
is_delivered (refused_call k) = false
is_delivered (unfinished r m c) = false
is_delivered (delivered r m c) = true

nil_or : (l : List Rec) → (l ≡ []) ⊎ (¬ (l ≡ []))
nil_or l = both (eq_cases (length l) 0) (λ e. inl (nil_from_length l e.0)) (λ e. inr (λ z. e.0 (ap length z)))

module _ (n : ℕ) (pt : ℕ → Point) (r : List ℕ) where
  abbrev m : ℕ
  m = least_to n pt r (n - 1)

  -- ---- a ring that the first six checks pass and that turns counter-clockwise is accepted as a start, and is not reversed
  module _ (short : Bool) (six : first_six n pt short false r ≡ 0) (turns : counter_clockwise n pt r ≡ true) where
    up : pos 0 <ℤ turn_at n pt r m
    up = both (lt_int_cases (pos 0) (turn_at n pt r m)) (λ g. g.0) (λ g. never (counter_clockwise n pt r) turns g.1)

    bends : 0 < n → all_below n (is_straight_line n pt r) ≡ false
    bends some =
        both (true_or_false (all_below n (is_straight_line n pt r)))
        (λ t. absurd (omega (arith, ints, up, zero_yes (turn_at n pt r m) (all_true n (is_straight_line n pt r) t m (least_lt n pt r (n - 1) (omega arith))))))
        (λ t. t)

    no_refusal : refusal n pt short false r ≡ 0
    no_refusal =
        let (four, late) = six_passed n pt short false r six in
        let (early, once) = four_passed n pt short false r four in
        let three = six_three n pt short false r six in
        refused_line_lem n pt short false r early once late (sym (bends (omega arith)))

    same_ring : finish n pt r ≡ r
    same_ring = both (lt_int_cases (turn_at n pt r m) (pos 0)) (λ g. absurd (omega (arith, ints, up, g.0))) (λ g. rw g.1)

  -- contact is asked of such a ring alone
  pub record Reached (short : Bool) (c : Check) : Type 0 where
    pub start : refusal n pt short false r ≡ 0
    pub same : finish n pt r ≡ r
    pub contact : contact n pt r ≡ c

  pub reached : (short : Bool) (c : Check) → refuses c ≡ false → check n pt r short ≡ c → Reached short c
  reached short c f h =
      let (six, behind) = numbered (first_six n pt short false r) (turn_and_contact n pt r) c f h in
      let (turns, is) = turned (counter_clockwise n pt r) (contact n pt r) c f behind in
      record { start = no_refusal short six turns; same = same_ring short six turns; contact = is }

  -- ---- it passes: then it is delivered
  passes_delivered : check n pt r false ≡ passed → call n pt false r [] ≡ delivered r 0 0
  passes_delivered h =
      let q = reached false passed refl h in
      let a = (accepted n pt false false r).0 q.start in
      let none = (contact_fresh n pt r a.board a.ring).0 q.contact in
      let d = demand3_call n pt false r [] q.start in
      d.0 ∙ d.1.delivers none ∙ (λ i. delivered (q.same i) 0 (length (none i)))

  -- ---- it is delivered as it is: then it passes
  module _ (moves cross : ℕ) (e : call n pt false r [] ≡ delivered r moves cross) where
    no_refusal₂ : refusal n pt false false r ≡ 0
    no_refusal₂ =
        both (eq_cases (refusal n pt false false r) 0) (λ h. h.0)
        (λ h. never (is_delivered (call n pt false r [])) (ap is_delivered e) (rw h.1))

    demand : Demand3 n pt place [] r
    demand = (demand3_call n pt false r [] no_refusal₂).1

    is_answer : answer n pt r (after n pt place [] r) ≡ delivered r moves cross
    is_answer = sym (demand3_call n pt false r [] no_refusal₂).0 ∙ e

    acc : Accepted n pt false false r
    acc = (accepted n pt false false r).0 no_refusal₂

    none_left : fresh n pt r ≡ []
    none_left =
        both (nil_or (fresh n pt r)) (λ h. h)
        (λ h. never (is_delivered (answer n pt r (after n pt place [] r))) (ap is_delivered is_answer) (ap is_delivered (demand.withholds h)))

    kept : finish n pt r ≡ r
    kept = ap ring_of (sym (demand.delivers none_left) ∙ is_answer)

    turns : counter_clockwise n pt r ≡ true
    turns =
        let (i, le, u) = subst (λ (l : List ℕ). (i : ℕ) × Least n pt l i × (pos 0 <ℤ turn_at n pt l i)) kept (demand.loop none_left).turns in
        let some : 0 < n = omega (arith, le.within) in
        let l : i ≡ m = least_one n pt r i m le (least_found n pt r (ring_apart n pt r acc.ring acc.board.distinct) some) in
        both (lt_int_cases (pos 0) (turn_at n pt r m)) (λ g. g.1) (λ g. absurd (omega (arith, ints, u, g.0, ap (turn_at n pt r) l)))

    six : first_six n pt false false r ≡ 0
    six = six_of_all n pt false false r no_refusal₂

    delivered_passes : check n pt r false ≡ passed
    delivered_passes =
        (λ i. cond (eqb (six i) 0) (turn_and_contact n pt r) (refused (six i)))
        ∙ (λ i. cond (not (turns i)) (refused 14) (contact n pt r))
        ∙ (contact_fresh n pt r acc.board acc.ring).1 none_left

-- It passes exactly when a run with no picks delivers it.
pub passes_exactly : (n : ℕ) (pt : ℕ → Point) (r : List ℕ) → (check n pt r false ≡ passed) ↔ ((moves : ℕ) × (cross : ℕ) × (call n pt false r [] ≡ delivered r moves cross))
passes_exactly n pt r = (λ h. (0, 0, passes_delivered n pt r h), λ (moves, cross, e). delivered_passes n pt r moves cross e)
