-- What a call answers: the checks in order, the run, the loop reversed if need be.
use Rattle.std.specs.Prelude.{Bool, not, cond, List, ℕ, zero, suc, ◌-◌, pos, eqb, ltb, length}
use Rattle.std.specs.Int.Signed.{lt_z}
use Rattle.algebra.specs.Ranges.{all_below}
use Rattle.geometry.specs.Plane.{Point, lt_point, eq_point, near_point}
use Rattle.polygon.specs.Ring.{each_once, turned_round}
use Rattle.machine.specs.Board.{pt_at, turn_at, is_straight_line}
use Rattle.machine.specs.Machine.{Traced, start, after, place}

pub data Answer : Type 0 where
  -- a refusal's number, 1 to 7 or 19
  refused : ℕ → Answer
  -- refusal 8: the ring, the moves made, the records left
  unfinished : List ℕ → ℕ → ℕ → Answer
  -- the loop, the moves made, the records at the start
  delivered : List ℕ → ℕ → ℕ → Answer

-- more than 1,000,000 picks; a run of as many keeps every age below 2³²
abbrev pub too_many : List ℕ → Bool
too_many cs = ltb 1000000 (length cs)

-- point i equals none before it
abbrev pub new_point : (ℕ → Point) → ℕ → Bool
new_point pt i = all_below i (λ j. not (eq_point (pt j) (pt i)))

module _ (n : ℕ) (pt : ℕ → Point) where
  -- the position of the least of the points at 0 to k
  abbrev pub least_to : List ℕ → ℕ → ℕ
  least_to r zero = 0
  least_to r (suc k) = let j = least_to r k in cond (lt_point (pt_at pt r (suc k)) (pt_at pt r j)) (suc k) j

  -- its least point turns clockwise
  abbrev pub clockwise : List ℕ → Bool
  clockwise r = lt_z (turn_at n pt r (least_to r (n - 1))) (pos 0)

  -- its least point turns counter-clockwise
  abbrev pub counter_clockwise : List ℕ → Bool
  counter_clockwise r = lt_z (pos 0) (turn_at n pt r (least_to r (n - 1)))

  -- The loop is reversed whole if its least point turns clockwise.
  abbrev pub finish : List ℕ → List ℕ
  finish r = cond (clockwise r) (turned_round n r) r

  -- the answer of the run t that started with k records
  abbrev pub answer_from : ℕ → Traced → Answer
  answer_from k t =
      cond (eqb (length t.now.store.dense) 0)
      (delivered (finish t.now.ring) (length t.log) k)
      (unfinished t.now.ring (length t.log) (length t.now.store.dense))

  -- the answer of the run t from the starting ring r
  abbrev pub answer : List ℕ → Traced → Answer
  answer r t = answer_from (length (start n pt r).dense) t

  -- ---- the checks
  abbrev pub in_range : Bool
  in_range = all_below n (λ i. near_point (pt i))

  -- no point equals an earlier one
  abbrev pub none_alike : Bool
  none_alike = all_below n (new_point pt)

  -- The number of the first check that fails, in the order 1, 2, 19, 3 to 7; 0 if none does. `short`: a lent buffer is too short (check 2); `many`: there are
  -- too many picks (check 19).
  abbrev pub refusal : Bool → Bool → List ℕ → ℕ
  refusal short many r =
      cond (ltb 256 n) 1
      (cond short 2
      (cond many 19
      (cond (not in_range) 3
      (cond (not (each_once n r)) 4
      (cond (not none_alike) 5
      (cond (ltb n 3) 6
      (cond (all_below n (is_straight_line n pt r)) 7 0)))))))

  -- A call with the starting ring r and the picks cs.
  abbrev pub call : Bool → List ℕ → List ℕ → Answer
  call short r cs = let a = answer r (after n pt place cs r) in cond (eqb (refusal short (too_many cs) r) 0) a (refused (refusal short (too_many cs) r))
