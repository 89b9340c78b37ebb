-- The reader's checks, and what holds of a job that passes them all.
use mathlib.Core.Path.{◌≡◌, sym, ◌∙◌}
use mathlib.Core.Bool.{Bool, true, false}
use mathlib.Core.List.{List}
use Prim.Native.Nat.{ℕ, ◌+◌, ◌*◌, ◌≤◌, ◌<◌}
use native.Mathlib.Omega.{arith}
use lib.IntN.{ℤ, pos, negsuc}
use lib.ListN.{length}
use borrow.Author.Tests.{le-ltb, eq-eqb, le-leb}
use Rattle.algebra.specs.Cases.{never}
use Rattle.algebra.specs.Ranges.{true_all}
use Rattle.algebra.specs.Size.{abs}
use Rattle.geometry.specs.Plane.{near}
use Rattle.job.specs.Words.{word, signed}
use Rattle.job.specs.Steps.{steps}
use Rattle.job.specs.Buffers.{over}
use Rattle.job.specs.Job.{point_count, point_start, pick_count, pick_start, x_at, y_at, pick_at, outside, SharesBytes, shares_bytes, in_range, decide, refusal, accepted, answer, Reading}
use Rattle.std.proofs.Common.{Ok, Err, ◌⊎◌, inl, inr}
use Rattle.refusal.specs.declared.Refusal.{Refusal}
use Rattle.refusal.specs.Number.{number_of}
use Rattle.refusal.proofs.Numbers.{some_number}
use Rattle.job.proofs.TwosComplement.{Bytes, word_range}
use Rattle.job.proofs.Rounding.{step_range}
use Rattle.job.proofs.Areas.{shares_decides}

-- ---- check 3 is met by no job
near_by : (z : ℤ) → abs z ≤ 1000000000 → near z ≡ true
near_by (pos n) h = le-leb n 1000000000 (omega arith)
near_by (negsuc n) h = rw (le-leb n 999999999 (omega arith))

pub no_three : (job : List ℕ) → Bytes job → in_range job ≡ true
unfolding in_range
no_three job b =
    rw (
      true_all (point_count job) (λ i. near (x_at job i)) (λ i _. near_word (word job 4 + 8 * i)),
      true_all (point_count job) (λ i. near (y_at job i)) (λ i _. near_word (word job 4 + 4 + 8 * i)),
    )
  where
    near_word : (k : ℕ) → near (steps (signed (word job k))) ≡ true
    near_word k = near_by (steps (signed (word job k))) (omega (arith, step_range (word job k) (word_range job k b)))

-- ---- a job that passes, by its words
pub no_refusal : (len p s m t e : ℕ) (ok : Bool) (nx ny np : ℕ) → 20 ≤ len → len ≤ 16384 → e ≡ len → p ≤ 48
    → outside s (8 * p) e ≡ false → outside t (4 * m) e ≡ false → shares_bytes s (8 * p) t (4 * m) ≡ false
    → p ≤ nx → p ≤ ny → m ≤ np → ok ≡ true → 0 ≡ decide len p s m t e ok nx ny np
unfolding decide
no_refusal len p s m t e ok nx ny np h k g a b f d u v w z =
    simp (le-ltb len 20 h, le-ltb 16384 len k, eq-eqb e len g, le-ltb 48 p a, b, f, d, le-ltb nx p u, le-ltb ny p v, le-ltb np m w, z)

-- the points' area is outside, whatever holds of the other
pub points_outside : (len p s m t e : ℕ) (ok : Bool) (nx ny np : ℕ) → 20 ≤ len → len ≤ 16384 → e ≡ len → p ≤ 48
    → outside s (8 * p) e ≡ true → 12 ≡ decide len p s m t e ok nx ny np
unfolding decide
points_outside len p s m t e ok nx ny np h k g a b = simp (le-ltb len 20 h, le-ltb 16384 len k, eq-eqb e len g, le-ltb 48 p a, b)

-- too short, or too long
pub wrong_length : (job : List ℕ) (nx ny np : ℕ) → (length job < 20) ⊎ ((20 ≤ length job) × (16384 < length job)) → 9 ≡ refusal job nx ny np
unfolding refusal decide
wrong_length job nx ny np (inl h) = grind arith
wrong_length job nx ny np (inr h) = grind arith

-- the numbers are the job's words, and its coordinates are within the range
pub of_words : (job : List ℕ) (p s m t e nx ny np : ℕ) {r : ℕ} → Bytes job
    → p ≡ word job 0 → s ≡ word job 4 → m ≡ word job 8 → t ≡ word job 12 → e ≡ word job 16
    → r ≡ decide (length job) p s m t e true nx ny np → r ≡ refusal job nx ny np
unfolding refusal
of_words job p s m t e nx ny np b h₁ h₂ h₃ h₄ h₅ g =
    g ∙ (λ i. decide (length job) (h₁ i) (h₂ i) (h₃ i) (h₄ i) (h₅ i) (sym (no_three job b) i) nx ny np)

-- ---- what holds of an accepted job
pub record Accepted (len p s m t e : ℕ) (ok : Bool) (nx ny np : ℕ) : Type 0 where
  pub long : 20 ≤ len
  pub short : len ≤ 16384
  pub whole : e ≡ len
  pub few : p ≤ 48
  pub start : 20 ≤ s
  pub end : s + 8 * p ≤ e
  pub pstart : 20 ≤ t
  pub pend : t + 4 * m ≤ e
  pub apart : SharesBytes s (8 * p) t (4 * m) → ⊥
  pub roomx : p ≤ nx
  pub roomy : p ≤ ny
  pub roomp : m ≤ np
  pub ranged : ok ≡ true

pub passed : (len p s m t e : ℕ) (ok : Bool) (nx ny np : ℕ) → decide len p s m t e ok nx ny np ≡ 0 → Accepted len p s m t e ok nx ny np
unfolding decide outside
passed len p s m t e ok nx ny np h =
    let none : shares_bytes s (8 * p) t (4 * m) ≡ false = grind arith in
    record {
      long = grind arith;
      short = grind arith;
      whole = grind arith;
      few = grind arith;
      start = grind arith;
      end = grind arith;
      pstart = grind arith;
      pend = grind arith;
      apart = λ w. never (shares_bytes s (8 * p) t (4 * m)) ((shares_decides s (8 * p) t (4 * m)).1 w) none;
      roomx = grind arith;
      roomy = grind arith;
      roomp = grind arith;
      ranged = grind arith;
    }

pub accepted_job : (job : List ℕ) (nx ny np : ℕ) → refusal job nx ny np ≡ 0
    → Accepted (length job) (word job 0) (word job 4) (word job 8) (word job 12) (word job 16) (in_range job) nx ny np
unfolding refusal
accepted_job job nx ny np h = passed (length job) (word job 0) (word job 4) (word job 8) (word job 12) (word job 16) (in_range job) nx ny np h

-- an accepted job has no byte that belongs to both areas
pub accepted_apart : (job : List ℕ) (nx ny np : ℕ) → refusal job nx ny np ≡ 0
    → SharesBytes (point_start job) (8 * point_count job) (pick_start job) (4 * pick_count job) → ⊥
accepted_apart job nx ny np h = (accepted_job job nx ny np h).apart

-- ---- 13 is answered only where a byte belongs to both areas
pub thirteen_shares : (job : List ℕ) (nx ny np : ℕ) → refusal job nx ny np ≡ 13
    → SharesBytes (point_start job) (8 * point_count job) (pick_start job) (4 * pick_count job)
unfolding refusal decide
thirteen_shares job nx ny np h =
    let share : shares_bytes (point_start job) (8 * point_count job) (pick_start job) (4 * pick_count job) ≡ true = grind arith in
    (shares_decides (point_start job) (8 * point_count job) (pick_start job) (4 * pick_count job)).0 share

-- the reader's numbers end with 13
pub up_to_thirteen : (job : List ℕ) (nx ny np : ℕ) → refusal job nx ny np ≤ 13
unfolding refusal decide
up_to_thirteen job nx ny np = grind arith

-- ---- the two answers of the reader
pub refused_reading : (job : List ℕ) (x y : List ℤ) (picks : List ℕ) (r : Refusal) → number_of r ≡ refusal job (length x) (length y) (length picks)
    → Reading job x y picks (Err r) x y picks
unfolding answer accepted
refused_reading job x y picks r e =
    let some = some_number r in
    record { answers = grind arith; xs = grind arith; ys = grind arith; ps = grind arith }

pub accepted_reading : (job : List ℕ) (x y : List ℤ) (picks : List ℕ) {x' y' : List ℤ} {picks' : List ℕ}
    → refusal job (length x) (length y) (length picks) ≡ 0
    → x' ≡ over x (x_at job) (point_count job) → y' ≡ over y (y_at job) (point_count job) → picks' ≡ over picks (pick_at job) (pick_count job)
    → Reading job x y picks (Ok (record { points = point_count job; picks = pick_count job })) x' y' picks'
unfolding answer accepted
accepted_reading job x y picks e ex ey ep = record { answers = grind arith; xs = grind arith; ys = grind arith; ps = grind arith }
