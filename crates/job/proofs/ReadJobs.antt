-- What a caller of the reader may rely on, from its contract alone.
use mathlib.Core.Path.{◌≡◌, refl, ap, ◌∙◌}
use mathlib.Core.Bool.{true, false, ◌&&◌}
use mathlib.Core.List.{List}
use Prim.Native.Nat.{ℕ, ◌≤◌}
use native.Mathlib.Omega.{arith}
use lib.IntN.{ℤ, pos}
use lib.ListN.{length}
use Rattle.algebra.specs.Cases.{and_left, and_right}
use Rattle.algebra.specs.Ranges.{all_below, all_true}
use Rattle.geometry.specs.Plane.{near}
use Rattle.geometry.specs.Answers.{refused, answered}
use Rattle.geometry.specs.Lent.{coord, Lent}
use Rattle.job.specs.Words.{word}
use Rattle.job.specs.Buffers.{over}
use Rattle.job.specs.Job.{point_count, pick_count, x_at, y_at, pick_at, in_range, refusal, accepted, answer, Reading}
use Rattle.job.specs.declared.reader.Counts.{Counts}
use Rattle.refusal.specs.declared.Refusal.{Refusal}
use Rattle.refusal.specs.Number.{number_of}
use Rattle.std.proofs.Common.{eqb, Result, Ok, Err}
use Rattle.refusal.proofs.Numbers.{some_number}
use Rattle.job.proofs.Refusals.{Accepted, accepted_job}
use Rattle.job.proofs.Written.{over_at, length_over}

-- A job that was read: n points and m picks stand at the buffers' start, and it passed every check.
pub record WasRead (job : List ℕ) (x y : List ℤ) (picks : List ℕ) (n m : ℕ) (x' y' : List ℤ) (picks' : List ℕ) : Type 0 where
  pub number : refusal job (length x) (length y) (length picks) ≡ 0
  pub checks : Accepted (length job) n (word job 4) m (word job 12) (word job 16) (in_range job) (length x) (length y) (length picks)
  pub points_are : point_count job ≡ n
  pub picks_are : pick_count job ≡ m
  pub xs : x' ≡ over x (x_at job) n
  pub ys : y' ≡ over y (y_at job) n
  pub ps : picks' ≡ over picks (pick_at job) m

-- A job that was refused: every buffer is as it was.
pub record WasRefused (job : List ℕ) (x y : List ℤ) (picks : List ℕ) (k : ℕ) (x' y' : List ℤ) (picks' : List ℕ) : Type 0 where
  pub number : refusal job (length x) (length y) (length picks) ≡ k
  pub some : ¬ (k ≡ 0)
  pub xs : x' ≡ x
  pub ys : y' ≡ y
  pub ps : picks' ≡ picks

module _ (job : List ℕ) (x y : List ℤ) (picks : List ℕ) {r : Result Counts Refusal} {x' y' : List ℤ} {picks' : List ℕ} (g : Reading job x y picks r x' y' picks') where
  -- what each answer of the reader says
  pub was_read : {counts : Counts} → r ≡ Ok counts → WasRead job x y picks counts.points counts.picks x' y' picks'
  unfolding accepted answer
  was_read {counts} is =
      let said : answered counts ≡ answer job (length x) (length y) (length picks) = rw is at g.answers in
      let zero : refusal job (length x) (length y) (length picks) ≡ 0 = grind arith in
      let same : counts ≡ record { points = point_count job; picks = pick_count job } = grind arith in
      rw same (record {
        number = zero;
        checks = accepted_job job (length x) (length y) (length picks) zero;
        points_are = refl;
        picks_are = refl;
        xs = rw zero at g.xs;
        ys = rw zero at g.ys;
        ps = rw zero at g.ps;
      })

  pub was_refused : {e : Refusal} → r ≡ Err e → WasRefused job x y picks (number_of e) x' y' picks'
  unfolding accepted answer
  was_refused {e} is =
      let said : refused (number_of e) ≡ answer job (length x) (length y) (length picks) = rw is at g.answers in
      let number : refusal job (length x) (length y) (length picks) ≡ number_of e = grind arith in
      let some : eqb (refusal job (length x) (length y) (length picks)) 0 ≡ false = grind (arith, some_number e) in
      record {
        number = number;
        some = λ z. let k = some_number e in omega (arith, z, k);
        xs = rw some at g.xs;
        ys = rw some at g.ys;
        ps = rw some at g.ps;
      }

-- The points of a job that was read can be lent on: they are few, there, and within the range.
pub read_lent : {job : List ℕ} {x y : List ℤ} {picks : List ℕ} {n m : ℕ} {x' y' : List ℤ} {picks' : List ℕ} → WasRead job x y picks n m x' y' picks' → Lent n x' y'
unfolding in_range
read_lent {job} {x} {y} {picks} {n} {m} {x'} {y'} w =
    let a = w.checks in
    let ranged : (all_below n (λ i. near (x_at job i)) && all_below n (λ i. near (y_at job i))) ≡ true = rw w.points_are at a.ranged in
    let lx : n ≤ length x' = rw (w.xs, length_over x (x_at job) n a.roomx) a.roomx in
    let ly : n ≤ length y' = rw (w.ys, length_over y (y_at job) n a.roomy) a.roomy in
    record {
      few = omega (arith, a.few);
      lx = lx;
      ly = ly;
      nx =
          λ i l.
          let e : coord x' i ≡ x_at job i = ap (λ k. coord k i) w.xs ∙ over_at x (x_at job) n i (pos 0) l in
          ap near e ∙ all_true n (λ k. near (x_at job k)) (and_left (all_below n (λ k. near (x_at job k))) (all_below n (λ k. near (y_at job k))) ranged) i l;
      ny =
          λ i l.
          let e : coord y' i ≡ y_at job i = ap (λ k. coord k i) w.ys ∙ over_at y (y_at job) n i (pos 0) l in
          ap near e ∙ all_true n (λ k. near (y_at job k)) (and_right (all_below n (λ k. near (x_at job k))) (all_below n (λ k. near (y_at job k))) ranged) i l;
    }
