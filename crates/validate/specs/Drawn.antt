-- A loop drawn by hand: the checks 1 to 6 first, then turn, then contact.
use Rattle.std.specs.Prelude.{Bool, false, not, cond, List, [], ◌∷◌, ℕ, zero, suc, ◌-◌, eqb, ℤ, length, take, Result, Ok, Err}
use Rattle.std.proofs.Math.Option.{Option, none, some}
use Rattle.algebra.specs.Ranges.{least_from}
use Rattle.refusal.specs.declared.Refusal.{Refusal}
use Rattle.refusal.specs.declared.Refusal.TheVariants.{EdgesMeet}
use Rattle.refusal.specs.Number.{number_of}
use Rattle.geometry.specs.Plane.{Point}
use Rattle.geometry.specs.Lent.{points}
use Rattle.polygon.specs.Edges.{edge_at}
use Rattle.machine.specs.Board.{meet_edges}
use Rattle.machine.specs.Answer.{counter_clockwise}
use Rattle.checks.specs.Checks.{any_below, first_six}

-- What is found of a drawn ring: it passes, it is refused with a number, or, which is refusal 15, the edges at two positions meet.
pub data Check : Type 0 where
  passed : Check
  refused : ℕ → Check
  meeting : ℕ → ℕ → Check

-- The edge at i meets that at j, if any does; else c.
abbrev pub meeting_or : ℕ → Option ℕ → Check → Check
meeting_or i none c = c
meeting_or i (some j) c = meeting i j

module _ (n : ℕ) (pt : ℕ → Point) (r : List ℕ) where
  -- the edges at positions i and j meet
  abbrev pub meet_at : ℕ → ℕ → Bool
  meet_at i j = meet_edges pt (edge_at n r i) (edge_at n r j)

  -- the first edge behind position i that meets the edge there
  abbrev pub first_behind : ℕ → Option ℕ
  first_behind i = least_from (suc i) (n - suc i) (meet_at i)

  -- For each of k edges from position i on, in ring order, those behind it, in ring order: the first that meet.
  abbrev pub contact_from : ℕ → ℕ → Check
  contact_from i zero = passed
  contact_from i (suc k) = meeting_or i (first_behind i) (contact_from (suc i) k)

  -- Contact: no two edges may meet.
  abbrev pub contact : Check
  contact = contact_from 0 n

  -- Turn: the least point turns counter-clockwise. Then contact.
  abbrev pub turn_and_contact : Check
  turn_and_contact = cond (not (counter_clockwise n pt r)) (refused 14) contact

  -- The checks 1 to 6, and these two. `short`: x, y or ring is too short (check 2); there are no picks.
  abbrev pub check : Bool → Check
  check short = let k = first_six n pt short false r in cond (eqb k 0) turn_and_contact (refused k)

-- ---- a call
-- Check 2 covers x, y and ring alone.
abbrev pub too_short : ℕ → List ℤ → List ℤ → List ℕ → Bool
too_short n x y ring = any_below n (length x ∷ length y ∷ length ring ∷ [])

-- What is found of the ring that the first n entries of a lent one name.
unfoldable pub validated : ℕ → List ℤ → List ℤ → List ℕ → Check
validated n x y ring = check n (points x y) (take n ring) (too_short n x y ring)

-- the code's answer in these words
abbrev pub check_of : Result (Unit {0}) Refusal → Check
check_of (Ok u) = passed
check_of (Err (EdgesMeet i j)) = meeting i j
check_of (Err r) = refused (number_of r)
