-- The buffers behind the reader, as the lists of the job itself: what was not written is 0, as is what lies past a list's end.
use mathlib.Core.Path.{◌≡◌, refl, sym, ap, ◌∙◌}
use mathlib.Core.Bool.{Bool, true, ◌&&◌}
use mathlib.Core.List.{List, [], ◌∷◌}
use Prim.Native.Nat.{ℕ, zero, suc, ◌+◌, ◌-◌, ◌≤◌}
use native.Mathlib.Omega.{arith}
use lib.IntN.{ℤ, pos}
use lib.ListN.{length, take, drop}
use lib.Seq.{get_or-append-add, get_or-drop, take-append_seam}
use borrow.Author.Tests.{eq-eqb, ne_eqb}
use Rattle.algebra.specs.Cases.{both, le_cases, and_left, and_right}
use Rattle.algebra.specs.Ranges.{table_at}
use Rattle.geometry.specs.Plane.{is_zero}
use Rattle.geometry.specs.Lent.{coord, points}
use Rattle.job.specs.Buffers.{over}
use Rattle.job.specs.Job.{x_at, y_at, pick_at, refusal, accepted}
use Rattle.refusal.specs.Number.{number_of}
use Rattle.refusal.specs.declared.Refusal.{Refusal}
use Rattle.std.proofs.lemmas.List.{get_or_past}
use Rattle.geometry.proofs.Points.{zero_yes}
use Rattle.job.specs.Text.{refused_line}
use Rattle.job.proofs.Written.{table, length_table, over_at}
use Rattle.job.proofs.ReadJobs.{WasRead, WasRefused}
use Rattle.tour.specs.Printed.{run_text, xs, ys, picks, printed}

-- a buffer of zeros, by a test that computes
abbrev pub all_zero : List ℤ → Bool
all_zero [] = true
all_zero (a ∷ l) = is_zero a && all_zero l

zero_at : (l : List ℤ) → all_zero l ≡ true → (i : ℕ) → coord l i ≡ pos 0
zero_at [] h i = refl
zero_at (a ∷ l) h zero = zero_yes a (and_left (is_zero a) (all_zero l) h)
zero_at (a ∷ l) h (suc i) = zero_at l (and_right (is_zero a) (all_zero l) h) i

-- a buffer of zeros behind a table reads as the table
pub zeros_behind : (l : List ℤ) → all_zero l ≡ true → (f : ℕ → ℤ) (n i : ℕ) → coord (over l f n) i ≡ coord (table f n) i
unfolding over
zeros_behind l z f n i =
    both (le_cases n i)
    (λ h.
    let k = i - n in
    let e : i ≡ length (table f n) + k = rw (length_table f n) (omega (arith, h.0)) in
    let past : length (table f n) ≤ i = rw (length_table f n) h.0 in
    ap (coord (over l f n)) e ∙ get_or-append-add (table f n) (drop n l) k (pos 0) ∙ get_or-drop n l k (pos 0) ∙ zero_at l z (n + k) ∙ sym (get_or_past (table f n) i (pos 0) past))
    (λ h. over_at l f n i (pos 0) h.0 ∙ sym (table_at f (pos 0) 0 n i h.0 ∙ ap f (omega arith)))

pub take_table : (l : List ℕ) (f : ℕ → ℕ) (n : ℕ) → take n (over l f n) ≡ table f n
unfolding over
take_table l f n = ap (λ k. take k (over l f n)) (sym (length_table f n)) ∙ take-append_seam (table f n) (drop n l)

module _ (job : List ℕ) (x y : List ℤ) (q : List ℕ) where
  -- what was read into buffers of zeros is what the job's own lists have
  module _ {n m : ℕ} {x' y' : List ℤ} {q' : List ℕ} (w : WasRead job x y q n m x' y' q') where
    pub read_x : all_zero x ≡ true → (i : ℕ) → coord x' i ≡ coord (xs job) i
    read_x z i = ap (λ l. coord l i) w.xs ∙ zeros_behind x z (x_at job) n i ∙ ap (λ k. coord (table (x_at job) k) i) (sym w.points_are)

    pub read_y : all_zero y ≡ true → (i : ℕ) → coord y' i ≡ coord (ys job) i
    read_y z i = ap (λ l. coord l i) w.ys ∙ zeros_behind y z (y_at job) n i ∙ ap (λ k. coord (table (y_at job) k) i) (sym w.points_are)

    pub read_picks : take m q' ≡ picks job
    read_picks = ap (take m) w.ps ∙ take_table q (pick_at job) m ∙ ap (table (pick_at job)) (sym w.picks_are)

  module _ (lx : length x ≡ 48) (ly : length y ≡ 48) (lq : length q ≡ 4096) where
    -- the number by the lengths of the buffers
    pub as_lent : refusal job (length x) (length y) (length q) ≡ refusal job 48 48 4096
    as_lent t = refusal job (lx t) (ly t) (lq t)

    pub refused_printed : (r : Refusal) {x' y' : List ℤ} {q' : List ℕ} → WasRefused job x y q (number_of r) x' y' q' → refused_line (number_of r) ≡ printed job
    unfolding printed accepted
    refused_printed r w =
        let e : refusal job 48 48 4096 ≡ number_of r = sym as_lent ∙ w.number in
        let no : refusal job 48 48 4096 ≡ 0 → ⊥ = λ z. w.some (sym e ∙ z) in
        rw (ne_eqb (refusal job 48 48 4096) 0 no, e)

    pub read_printed : all_zero x ≡ true → all_zero y ≡ true → {n m : ℕ} {x' y' : List ℤ} {q' : List ℕ} → WasRead job x y q n m x' y' q'
        → run_text n (points x' y') (take m q') ≡ printed job
    unfolding printed accepted
    read_printed zx zy {n} {m} {x'} {y'} {q'} w =
        let e : refusal job 48 48 4096 ≡ 0 = sym as_lent ∙ w.number in
        let pt : points x' y' ≡ points (xs job) (ys job) = λ t i. record { x = read_x w zx i t; y = read_y w zy i t } in
        rw (eq-eqb (refusal job 48 48 4096) 0 e)
        (λ t. run_text (sym w.points_are t) (pt t) (read_picks w t))
