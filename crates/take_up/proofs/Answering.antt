-- What the exits of `take_up` answer and leave is what the definition says.
use Rattle.std.specs.Prelude.{◌≡◌, refl, ◌≢◌, Bool, true, false, cond, List, replicate, ℕ, ◌≤◌, ◌<◌, eqb, length, take, drop, ℤ, pos, Result}
use Rattle.std.proofs.Common.{Bor, sym, ◌∙◌, ap, arith}
use Rattle.std.proofs.Math.Seq.{take_at}
use Rattle.std.proofs.lemmas.List.{length-map}
use borrow.Author.Tests.{ne_eqb, lt-ltb}
use Rattle.algebra.specs.Cases.{both, le_cases, eq_cases}
use Rattle.algebra.specs.Ranges.{up_from, up_from_length}
use Rattle.refusal.specs.declared.Refusal.{Refusal}
use Rattle.refusal.specs.Number.{number_of}
use Rattle.refusal.proofs.Numbers.{some_number}
use Rattle.geometry.specs.Plane.{Point}
use Rattle.geometry.specs.Lent.{points}
use Rattle.geometry.specs.Spots.{spots}
use Rattle.geometry.specs.declared.lent.Points.{Points}
use Rattle.machine.specs.Answer.{refused, unfinished, delivered, refusal, too_many}
use Rattle.machine.proofs.Accepted.{Accepted, accepted}
use Rattle.checks.specs.Checks.{Of}
use Rattle.resolve.specs.declared.resolve.Resolved.{Resolved}
use Rattle.two_opt.specs.Entry.{Loan, refusal_of, answer_of, short_of}
use Rattle.two_opt.specs.Lent.{Starting, RanFrom}
use Rattle.two_opt.specs.declared.entries.Delivered.{Delivered}
use Rattle.two_opt.proofs.Answering.{told_by, not_eight, ran_answer}
use Rattle.job.specs.Buffers.{over}
use Rattle.resume.specs.Image.{Image, take_up}
use Rattle.resume.specs.Check.{fits, image_refusal}
use Rattle.resume.specs.Fit.{Fit}
use Rattle.resume.proofs.Calls.{image_accepted, seven_first}
use Rattle.resume.proofs.Checking.{fits_decides}
use Rattle.resume.proofs.Renumbering.{slotted_length}
use Rattle.image.specs.Reading.{image_fault, point_count, x_in, y_in, ring_entry, ring_in, lines_in, read_image}
use Rattle.image.specs.declared.image_file.ImageFile.{ImageFile}
use Rattle.image.proofs.Checking.{twenty}
use Rattle.take_up.specs.TakenUp.{board_in, taking_refusal, taking_call, TakenUp}
use Rattle.take_up.proofs.Reading.{board_is}

-- ---- what is read into arrays before the checks
-- with more than 256 points check 1 refuses, whatever else was given
many_points : (n : ℕ) (pt qt : ℕ → Point) (s t m o : Bool) (r q : List ℕ) → 256 < n → refusal n pt s m r ≡ refusal n qt t o q
many_points n pt qt s t m o r q h = rw (lt-ltb 256 n h) refl

-- of at most 256 points the ring in full
pub ring_is : (img : List ℕ) {n : ℕ} → n ≡ point_count img → {pr : List ℕ} → pr ≡ over (replicate 256 0) (ring_entry img) (point_count img) → take n pr ≡ ring_in img
unfolding over
ring_is img {n} en er =
    (λ i. take (en i) (er i)) ∙ take_at (ring_in img) (drop (point_count img) (replicate 256 0)) (point_count img) (length-map (up_from 0 (point_count img)) (ring_entry img) ∙ up_from_length 0 (point_count img))

-- so the number that the code answers is the definition's, though it reads no more than 256 of each
pub number_is : (img cs : List ℕ) (x y : List ℤ) (was : Loan) {n few : ℕ} → n ≡ point_count img → (n ≤ 256 → few ≡ n) → {px py : List ℤ} {pr : List ℕ}
    → px ≡ over (replicate 256 (pos 0)) (x_in img) few → py ≡ over (replicate 256 (pos 0)) (y_in img) few → pr ≡ over (replicate 256 0) (ring_entry img) few
    → {s m : Bool} → (n ≤ 256 → s ≡ short_of n x y was) → m ≡ too_many cs
    → refusal n (points px py) s m (take n pr) ≡ refusal (point_count img) (board_in img) (short_of (point_count img) x y was) (too_many cs) (ring_in img)
number_is img cs x y was {n} {few} en ef {px} {py} {pr} ex ey er {s} {m} es em =
    both (le_cases n 256)
    (λ h.
    let f : few ≡ point_count img = ef h.0 ∙ en in
    let board = board_is img (ex ∙ ap (over (replicate 256 (pos 0)) (x_in img)) f) (ey ∙ ap (over (replicate 256 (pos 0)) (y_in img)) f) in
    let ring = ring_is img en (er ∙ ap (over (replicate 256 0) (ring_entry img)) f) in
    λ i. refusal (en i) (board i) ((es h.0 ∙ (λ j. short_of (en j) x y was)) i) (em i) (ring i))
    (λ h. rw en (many_points (point_count img) (points px py) (board_in img) s (short_of (point_count img) x y was) m (too_many cs) (take (point_count img) pr) (ring_in img) (omega (arith, h.0, en))))

module _ (img cs : List ℕ) (x y : List ℤ) (was : Loan) where
  abbrev n : ℕ
  n = point_count img

  abbrev pt : ℕ → Point
  pt = board_in img

  abbrev m : Image
  m = read_image img

  abbrev short : Bool
  short = short_of n x y was

  abbrev many : Bool
  many = too_many cs

  abbrev k : ℕ
  k = taking_refusal img short many

  -- ---- a call that is refused
  call_refused : k ≢ 0 → refused k ≡ taking_call img short cs
  unfolding taking_refusal taking_call
  call_refused some =
      both (eq_cases (image_fault img) 0)
      (λ z. rw z.1 (let k' : image_refusal n pt short many m ≢ 0 = λ w. some (rw z.1 w) in rw (ne_eqb (image_refusal n pt short many m) 0 k') refl))
      (λ z. rw z.1 refl)

  refused_taken : (e : Refusal) → number_of e ≡ k → number_of e ≢ 8 → TakenUp img cs x y was x y was (refusal_of e (take n was.ring))
  refused_taken e h eight =
      let no : k ≢ 0 = λ z. omega (arith, h, z, some_number e) in
      record {
        answers = told_by e (take n was.ring) eight ∙ ap refused h ∙ call_refused no;
        untouched = λ _. (refl, refl, refl);
        filled = λ z. absurd (no z);
        ended = λ z. absurd (no z);
        tree = λ z. absurd (no z);
        beyond = refl;
      }

  -- by check 20
  pub fault_taken : (e : Refusal) → number_of e ≡ image_fault img → TakenUp img cs x y was x y was (refusal_of e (take n was.ring))
  unfolding taking_refusal
  fault_taken e h =
      let some : image_fault img ≢ 0 = λ z. omega (arith, h, z, some_number e) in
      let is : image_fault img ≡ 20 = twenty img (omega (arith, h, some_number e)) in
      refused_taken e (h ∙ rw (ne_eqb (image_fault img) 0 some) refl) (λ z. omega (arith, h, is, z))

  module _ (passed : 0 ≡ image_fault img) where
    -- by one of the checks 1 to 7 and 19
    pub check_taken : (e : Refusal) → number_of e ≡ refusal n pt short many (ring_in img) → TakenUp img cs x y was x y was (refusal_of e (take n was.ring))
    unfolding taking_refusal
    check_taken e h =
        let some : refusal n pt short many (ring_in img) ≢ 0 = λ z. omega (arith, h, z, some_number e) in
        refused_taken e (h ∙ sym (seven_first n pt short many m some) ∙ rw (sym passed) refl) (λ z. not_eight n pt short many (ring_in img) (sym h ∙ z))

    module _ (ok : refusal n pt short many (ring_in img) ≡ 0) where
      pub is_accepted : Accepted n pt short many (ring_in img)
      is_accepted = (accepted n pt short many (ring_in img)).0 ok

      pub is_fit : {b : Bool} → b ≡ fits n pt m → b ≡ true → Fit n pt m
      is_fit e f = (fits_decides n pt is_accepted.board m is_accepted.ring).0 (sym e ∙ f)

      -- by check 21
      pub unfit_taken : (e : Refusal) → number_of e ≡ 21 → {b : Bool} → b ≡ fits n pt m → b ≡ false → TakenUp img cs x y was x y was (refusal_of e (take n was.ring))
      unfolding taking_refusal
      unfit_taken e h eb f = refused_taken e (h ∙ sym (rw (sym passed, ok, sym eb ∙ f) refl)) (λ z. omega (arith, h, z))

      -- ---- a call that goes on
      none : Fit n pt m → k ≡ 0
      unfolding taking_refusal
      none fit = rw (sym passed) ((image_accepted n pt short many m).1 (ok, fit))

      pub ran_taken : Fit n pt m → {x' y' : List ℤ} {mid is : Loan} (a : Result Delivered Refusal) {done : Resolved} → x' ≡ over x (x_in img) n → y' ≡ over y (y_in img) n
          → Starting n (ring_in img) was mid → RanFrom n pt (take_up m) cs mid is done
          → ((ring : List ℕ) → answer_of a ring ≡ cond (eqb done.left 0) (delivered ring done.moves done.cross) (unfinished ring done.moves done.left))
          → TakenUp img cs x y was x' y' is (answer_of a (take n is.ring))
      unfolding taking_call
      ran_taken fit {is = is} a {done} ex ey start ran tells = record {
        answers =
            tells (take n is.ring) ∙ ran_answer n pt (take_up m) cs ran.counted ran.ended.same_ring
            ∙ rw (sym passed, (image_accepted n pt short many m).1 (ok, fit), slotted_length 0 (lines_in img)) refl;
        untouched = λ no. absurd (no (none fit));
        filled = λ _. (ex, ey);
        ended = λ _. ran.ended;
        tree = λ _. ran.tree;
        beyond = ran.beyond ∙ start.beyond;
      }

-- ---- what the checks let pass, as the code has it: the image's points are p, and the first entries of an array its ring
pub record Passed (img : List ℕ) (cs : List ℕ) (x y : List ℤ) (was : Loan) (n : ℕ) (p : Points) (l : List ℕ) : Type 0 where
  pub counts : n ≡ point_count img
  pub counted : p.n ≡ n
  pub size : p.n ≡ point_count img
  pub board : spots p ≡ board_in img
  pub ring : l ≡ ring_in img
  pub long : length l ≡ point_count img
  pub passed : 0 ≡ image_fault img
  pub ok : refusal (point_count img) (board_in img) (short_of (point_count img) x y was) (too_many cs) (ring_in img) ≡ 0
  pub accepted : Accepted (point_count img) (board_in img) (short_of (point_count img) x y was) (too_many cs) (ring_in img)

pub accepted_points : (file : ImageFile) (cs : List ℕ) (x y : List ℤ) (was : Loan) {few : ℕ} → (file.header.points ≤ 256 → few ≡ file.header.points) → {px py : Bor (List ℤ)} {pr : List ℕ}
    → px.now ≡ over (replicate 256 (pos 0)) (x_in file.bytes.now) few → py.now ≡ over (replicate 256 (pos 0)) (y_in file.bytes.now) few → pr ≡ over (replicate 256 0) (ring_entry file.bytes.now) few
    → {s m : Bool} → (file.header.points ≤ 256 → s ≡ short_of file.header.points x y was) → m ≡ too_many cs
    → 0 ≡ image_fault file.bytes.now → 0 ≡ refusal file.header.points (points px.now py.now) s m (take file.header.points pr) → (p : Points) → Of file.header.points px py p
    → Passed file.bytes.now cs x y was file.header.points p (take file.header.points pr)
accepted_points file cs x y was {few} ef {px} {py} {pr} ex ey er es em passed checked p o = record {
  counts = en;
  counted = o.0;
  size = o.0 ∙ en;
  board = (λ i. points ((o.1 i).now) ((o.2 i).now)) ∙ board_is img (ex ∙ ap (over (replicate 256 (pos 0)) (x_in img)) f) (ey ∙ ap (over (replicate 256 (pos 0)) (y_in img)) f);
  ring = ring;
  long = ap length ring ∙ acc.ring.len;
  passed = passed;
  ok = ok;
  accepted = acc;
}
  where
    img : List ℕ
    img = file.bytes.now

    en : file.header.points ≡ point_count file.bytes.now
    en = ap (λ h. h.points) file.within.words

    ok : refusal (point_count file.bytes.now) (board_in file.bytes.now) (short_of (point_count file.bytes.now) x y was) (too_many cs) (ring_in file.bytes.now) ≡ 0
    ok = sym (checked ∙ number_is file.bytes.now cs x y was en ef ex ey er es em)

    acc : Accepted (point_count file.bytes.now) (board_in file.bytes.now) (short_of (point_count file.bytes.now) x y was) (too_many cs) (ring_in file.bytes.now)
    acc = is_accepted file.bytes.now cs x y was passed ok

    f : few ≡ point_count file.bytes.now
    f = ef (omega (arith, en, acc.few)) ∙ en

    ring : take file.header.points pr ≡ ring_in file.bytes.now
    ring = ring_is file.bytes.now en (er ∙ ap (over (replicate 256 0) (ring_entry file.bytes.now)) f)
