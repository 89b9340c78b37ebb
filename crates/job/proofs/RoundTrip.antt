-- The reader reads back exactly what the encoder wrote.
use Rattle.std.proofs.lemmas.Grind.{common_steps}
use mathlib.Core.Path.{◌≡◌, refl, sym, ap, subst, ◌∙◌}
use mathlib.Core.Bool.{true, false}
use mathlib.Core.List.{List, ◌++◌, map, map-map}
use Prim.Native.Nat.{ℕ, zero, suc, ◌+◌, ◌*◌, ◌^◌, ◌≤◌, ◌<◌}
use native.Mathlib.Omega.{arith}
use lib.ListN.{length, get_or, take, drop, length-append, get_or-append}
use lib.Seq.{get_or-append-add}
use Rattle.std.proofs.Common.{Result, Some}
use lib.IntN.{ℤ, pos}
use lib.Signed.{mag}
use borrow.Author.Tests.{eq-eqb}
use Rattle.algebra.specs.Ranges.{up_from}
use Rattle.geometry.specs.Answers.{answered, told}
use Rattle.geometry.specs.Lent.{coord}
use Rattle.job.specs.Words.{word, signed, bits_of}
use Rattle.job.specs.Steps.{steps}
use Rattle.job.specs.Buffers.{over}
use Rattle.job.specs.Job.{point_count, point_start, pick_count, pick_start, total, x_in, y_in, pick_at, outside, shares_bytes, refusal, accepted, answer, Reading}
use Rattle.job.specs.Encoded.{header, pairs, job_of, Made}
use Rattle.job.specs.declared.reader.Counts.{Counts}
use Rattle.refusal.specs.declared.Refusal.{Refusal}
use Rattle.job.proofs.Written.{table, table_is}
use Rattle.job.proofs.TwosComplement.{Bytes, signed_bits, bits_small}
use Rattle.job.proofs.Areas.{ends_before}
use Rattle.job.proofs.Refusals.{no_refusal, of_words}
use Rattle.job.proofs.Bytes.{Small, none, more, small_append, word_bytes_lem, bytes_of_words}
use Rattle.job.proofs.Encoding.{length_pairs, length_job, fitting, made_job}

-- every number fits 32 bits
pub record Fit (l : List ℤ) : Type 0 where
  pub fit : (i : ℕ) → mag (coord l i) < 2 ^ 31

-- ---- the words of the points
module _ (x y : List ℤ) where
  pub small_pairs : Fit x → Fit y → (n : ℕ) → Small (pairs x y n)
  unfolding pairs
  small_pairs fx fy zero = none
  small_pairs fx fy (suc n) =
      small_append (small_pairs fx fy n) (more (bits_small (coord x n) (fx.fit n)) (more (bits_small (coord y n) (fy.fit n)) none))

  pub pairs_x : (n i : ℕ) → i < n → get_or (pairs x y n) (2 * i) 0 ≡ bits_of (coord x i)
  unfolding pairs
  pairs_x zero i h = absurd (omega arith)
  pairs_x (suc n) i h = grind (arith, common_steps, length_pairs x y n, pairs_x n i)

  pub pairs_y : (n i : ℕ) → i < n → get_or (pairs x y n) (2 * i + 1) 0 ≡ bits_of (coord y i)
  unfolding pairs
  pairs_y zero i h = absurd (omega arith)
  pairs_y (suc n) i h = grind (arith, common_steps, length_pairs x y n, pairs_y n i)

inside_area : (s k e : ℕ) → 20 ≤ s → s + k ≤ e → outside s k e ≡ false
unfolding outside
inside_area s k e h g = grind arith

-- points and picks that the encoder takes
pub record Encodable (x y : List ℤ) (picks : List ℕ) : Type 0 where
  pub fit_x : Fit x
  pub fit_y : Fit y
  pub fit_picks : Small picks
  pub same : length y ≡ length x
  pub few : length x ≤ 48
  pub short : 20 + 8 * length x + 4 * length picks ≤ 16384

-- ---- what the reader finds in the encoded job
module _ {x y : List ℤ} {picks : List ℕ} (made : Encodable x y picks) where
  abbrev n : ℕ
  n = length x

  abbrev m : ℕ
  m = length picks

  abbrev rest : List ℕ
  rest = pairs x y n ++ picks

  abbrev job : List ℕ
  job = job_of x y picks

  length_rest : length rest ≡ 2 * n + m
  length_rest = rw length-append (omega (arith, length_pairs x y n))

  small : Small (header n m ++ rest)
  unfolding header
  small =
      let a : n < 2 ^ 32 = omega (arith, made.few) in
      let b : 20 < 2 ^ 32 = omega arith in
      let c : m < 2 ^ 32 = omega (arith, made.short) in
      let d : 20 + 8 * n < 2 ^ 32 = omega (arith, made.short) in
      let e : 20 + 8 * n + 4 * m < 2 ^ 32 = omega (arith, made.short) in
      more a (more b (more c (more d (more e (small_append (small_pairs x y made.fit_x made.fit_y n) made.fit_picks)))))

  bytes : Bytes job
  unfolding job_of
  bytes = record { byte = bytes_of_words (header n m ++ rest) small }

  head_word : (j : ℕ) → j < 5 → word job (4 * j) ≡ get_or (header n m) j 0
  unfolding job_of header
  head_word j h = word_bytes_lem (header n m ++ rest) j (omega arith) ∙ get_or-append (header n m) rest 0 j h

  rest_word : (j k : ℕ) → j < 2 * n + m → k ≡ 20 + 4 * j → word job k ≡ get_or rest j 0
  unfolding job_of header
  rest_word j k h e =
      let g : k ≡ 4 * (5 + j) = omega arith in
      let b : 5 + j < length (header n m ++ rest) = omega (arith, length_rest) in
      ap (word job) g ∙ word_bytes_lem (header n m ++ rest) (5 + j) b ∙ get_or-append-add (header n m) rest j 0

  pub points_is : point_count job ≡ n
  unfolding header
  points_is = head_word 0 (omega arith)

  pub start_is : point_start job ≡ 20
  unfolding header
  start_is = head_word 1 (omega arith)

  pub picks_is : pick_count job ≡ m
  unfolding header
  picks_is = head_word 2 (omega arith)

  pub pick_start_is : pick_start job ≡ 20 + 8 * n
  unfolding header
  pick_start_is = head_word 3 (omega arith)

  pub total_is : total job ≡ 20 + 8 * n + 4 * m
  unfolding header
  total_is = head_word 4 (omega arith)

  x_in_lem : (i : ℕ) → i < n → x_in job i ≡ coord x i
  x_in_lem i h =
      let at = rest_word (2 * i) (point_start job + 8 * i) (omega arith) (omega (arith, start_is)) in
      ap signed (grind (arith, common_steps, at, length_pairs x y n, pairs_x x y n i h)) ∙ signed_bits (coord x i) (made.fit_x.fit i)

  y_in_lem : (i : ℕ) → i < n → y_in job i ≡ coord y i
  y_in_lem i h =
      let at = rest_word (2 * i + 1) (point_start job + 4 + 8 * i) (omega arith) (omega (arith, start_is)) in
      ap signed (grind (arith, common_steps, at, length_pairs x y n, pairs_y x y n i h)) ∙ signed_bits (coord y i) (made.fit_y.fit i)

  pub encoded_xs : table (x_in job) n ≡ x
  encoded_xs = table_is (x_in job) x (pos 0) n refl x_in_lem

  pub encoded_ys : table (y_in job) n ≡ y
  encoded_ys = table_is (y_in job) y (pos 0) n made.same y_in_lem

  pick_is : (i : ℕ) → i < m → pick_at job i ≡ get_or picks i 0
  pick_is i h =
      rest_word (2 * n + i) (pick_start job + 4 * i) (omega arith) (omega (arith, pick_start_is))
      ∙ ap (λ k. get_or rest (k + i) 0) (sym (length_pairs x y n))
      ∙ get_or-append-add (pairs x y n) picks i 0

  -- the picks start where the points end: no byte belongs to both areas
  encoded_apart : shares_bytes 20 (8 * n) (20 + 8 * n) (4 * m) ≡ false
  encoded_apart = ends_before 20 (8 * n) (20 + 8 * n) (4 * m) (omega arith)

  encoded_passes : (nx ny np : ℕ) → n ≤ nx → n ≤ ny → m ≤ np → refusal job nx ny np ≡ 0
  encoded_passes nx ny np a b c =
      let len = length_job x y picks in
      sym
      (of_words job n 20 m (20 + 8 * n) (20 + 8 * n + 4 * m) nx ny np bytes (sym points_is) (sym start_is) (sym picks_is) (sym pick_start_is) (sym total_is)
      (no_refusal (length job) n 20 m (20 + 8 * n) (20 + 8 * n + 4 * m) true nx ny np (omega (arith, len)) (omega (arith, len)) (sym len) made.few
      (inside_area 20 (8 * n) (20 + 8 * n + 4 * m) (omega arith) (omega arith))
      (inside_area (20 + 8 * n) (4 * m) (20 + 8 * n + 4 * m) (omega arith) (omega arith))
      encoded_apart a b c refl))

-- What the reader answers and leaves for a job of the points x, y and the picks: their steps and the picks at the start of X, Y and Q.
pub record Back (x y : List ℤ) (picks : List ℕ) (X Y : List ℤ) (Q : List ℕ) (r : Result Counts Refusal) (X' Y' : List ℤ) (Q' : List ℕ) : Type 0 where
  pub answers : told r ≡ answered (record { points = length x; picks = length picks })
  pub xs : X' ≡ map steps x ++ drop (length x) X
  pub ys : Y' ≡ map steps y ++ drop (length x) Y
  pub qs : Q' ≡ picks ++ drop (length picks) Q

encoded_back : {x y : List ℤ} {picks : List ℕ} → Encodable x y picks
    → (X Y : List ℤ) (Q : List ℕ) → length x ≤ length X → length x ≤ length Y → length picks ≤ length Q
    → {r : Result Counts Refusal} {X' Y' : List ℤ} {Q' : List ℕ} → Reading (job_of x y picks) X Y Q r X' Y' Q' → Back x y picks X Y Q r X' Y' Q'
unfolding answer accepted over
encoded_back {x} {y} {picks} made X Y Q hx hy hq {r} {X'} {Y'} {Q'} g =
    let job = job_of x y picks in
    let e = eq-eqb (refusal job (length X) (length Y) (length Q)) 0 (encoded_passes made (length X) (length Y) (length Q) hx hy hq) in
    let p = points_is made in
    let q = picks_is made in
    record {
      answers = rw (e, p, q) at g.answers;
      xs =
          rw (e, p) at g.xs
          ∙ ap (λ l. l ++ drop (length x) X) (sym (map-map steps (x_in job) (up_from 0 (length x))) ∙ ap (map steps) (encoded_xs made));
      ys =
          rw (e, p) at g.ys
          ∙ ap (λ l. l ++ drop (length x) Y) (sym (map-map steps (y_in job) (up_from 0 (length x))) ∙ ap (map steps) (encoded_ys made));
      qs =
          rw (e, q) at g.ps
          ∙ ap (λ l. l ++ drop (length picks) Q) (table_is (pick_at job) picks 0 (length picks) refl (pick_is made));
    }

-- `write_job` writes n bytes at the start of out; `read_job` of these bytes gives the steps of the points, and the picks.
pub there_and_back : (x y : List ℤ) (picks out : List ℕ) {n : ℕ} {out' : List ℕ} → Fit x → Fit y → Small picks
    → Made x y picks out (Some n) out'
    → (X Y : List ℤ) (Q : List ℕ) → length x ≤ length X → length x ≤ length Y → length picks ≤ length Q
    → {r : Result Counts Refusal} {X' Y' : List ℤ} {Q' : List ℕ} → Reading (take n out') X Y Q r X' Y' Q' → Back x y picks X Y Q r X' Y' Q'
there_and_back x y picks out {n} {out'} fx fy fp m X Y Q hx hy hq {r} {X'} {Y'} {Q'} g =
    let f = fitting (length x) (length y) (length picks) (length out) n (sym m.answer) in
    let short : 20 + 8 * length x + 4 * length picks ≤ 16384 = rw f.is at f.short in
    let made : Encodable x y picks = record { fit_x = fx; fit_y = fy; fit_picks = fp; same = f.same; few = f.few; short = short } in
    encoded_back made X Y Q hx hy hq (subst (λ (j : List ℕ). Reading j X Y Q r X' Y' Q') (made_job m) g)
