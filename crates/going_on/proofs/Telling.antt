-- The answer of the call that takes up an image is told with the ring's first entries, as many as the image has points, if these are few enough.
use Rattle.std.specs.Prelude.{◌≡◌, refl, true, List, ℕ, min, length, take, ℤ, Result, Ok, Err}
use Rattle.std.proofs.Common.{sym, ◌∙◌, ap, subst, arith, length-take-le}
use Rattle.algebra.specs.Cases.{both, eq_cases}
use Rattle.refusal.specs.declared.Refusal.{Refusal}
use Rattle.refusal.specs.declared.Refusal.TheVariants.{PicksUsedUp}
use Rattle.geometry.specs.Lent.{points}
use Rattle.intersection_set.specs.Pool.{tangle_at}
use Rattle.machine.specs.Answer.{Answer, refused, unfinished, delivered}
use Rattle.two_opt.specs.Entry.{Loan, answer_of}
use Rattle.two_opt.specs.declared.entries.Delivered.{Delivered}
use Rattle.job.specs.Feed.{Drawn}
use Rattle.job.specs.Tallied.{Tallied}
use Rattle.image.specs.Reading.{image_fault}
use Rattle.tour.specs.Printed.{told}
use Rattle.tour.proofs.Room.{Roomy}
use Rattle.tour.proofs.Jobs.{all_zero}
use Rattle.take_up.specs.TakenUp.{TakenUp}
use Rattle.going_on.specs.Printed.{text_on}
use Rattle.going_on.proofs.Taken.{n, number, no_fault, told_number, few_points, loop_drawn, left_tallied, told_taken}

is_refused : Answer → ℕ
is_refused (refused k) = 1
is_refused a = 0

-- a refusal but 8 is one with any ring
refused_with : (done : Result Delivered Refusal) (r l : List ℕ) (k : ℕ) → answer_of done r ≡ refused k → answer_of done l ≡ refused k
unfolding is_refused
refused_with (Ok d) r l k h = absurd (let z : ◌≡◌ {A = ℕ} 0 1 = ap is_refused h in omega arith)
refused_with (Err (PicksUsedUp moves left)) r l k h = absurd (let z : ◌≡◌ {A = ℕ} 0 1 = ap is_refused h in omega arith)
refused_with (Err q) r l k h = h

module _ (img cs : List ℕ) (x y : List ℤ) (was : Loan) (x' y' : List ℤ) (is : Loan) (done : Result Delivered Refusal) (t : TakenUp img cs x y was x' y' is (answer_of done (take (n img) is.ring)))
    (lx : length x ≡ 256) (ly : length y ≡ 256) (zx : all_zero x ≡ true) (zy : all_zero y ≡ true) (room : Roomy 256 was) (ring : length is.ring ≡ 256) (many : length is.records.tangles ≡ 65280)
    (k : ℕ) (all : image_fault img ≡ 0 → k ≡ min (n img) 256) where
  whole : number img cs ≡ 0 → k ≡ n img
  whole z = omega (arith, all (no_fault img cs z).0, few_points img cs x y was x' y' is (answer_of done (take (n img) is.ring)) t lx ly zx zy room many z)

  -- a ring is told only where no check refuses
  not_refused : {a : Answer} → answer_of done (take (n img) is.ring) ≡ a → is_refused a ≡ 0 → number img cs ≡ 0
  unfolding is_refused
  not_refused e none =
      both (eq_cases (number img cs) 0) (λ z. z.0)
      (λ z. absurd (omega (arith, none, ap is_refused (sym (told_number img cs x y was x' y' is (answer_of done (take (n img) is.ring)) t lx ly zx zy room many z.0).0 ∙ e))))

  pub drawn : (d : Delivered) → done ≡ Ok d → Drawn x' y' (take k is.ring)
  unfolding is_refused
  drawn d e =
      let a : answer_of done (take (n img) is.ring) ≡ delivered (take (n img) is.ring) d.moves d.cross = ap (λ r. answer_of r (take (n img) is.ring)) e in
      let z : number img cs ≡ 0 = not_refused a refl in
      subst (λ j. Drawn x' y' (take j is.ring)) (sym (whole z)) (loop_drawn img cs x y was x' y' is (answer_of done (take (n img) is.ring)) t lx ly zx zy room many z a)

  pub tallied : (moves left : ℕ) → done ≡ Err (PicksUsedUp moves left) → Tallied (take k is.ring) is.records.tangles
  unfolding is_refused
  tallied moves left e =
      let a : answer_of done (take (n img) is.ring) ≡ unfinished (take (n img) is.ring) moves left = ap (λ r. answer_of r (take (n img) is.ring)) e in
      let z : number img cs ≡ 0 = not_refused a refl in
      subst (λ j. Tallied (take j is.ring) is.records.tangles) (sym (whole z)) (left_tallied img cs x y was x' y' is (answer_of done (take (n img) is.ring)) t lx ly zx zy room many z a)

  pub told_is : told (points x' y') (λ e. tangle_at (length (take k is.ring)) e is.records.tangles) (answer_of done (take k is.ring)) ≡ text_on img cs
  unfolding told
  told_is =
      both (eq_cases (number img cs) 0)
      (λ z.
      let e : k ≡ n img = whole z.0 in
      let few = few_points img cs x y was x' y' is (answer_of done (take (n img) is.ring)) t lx ly zx zy room many z.0 in
      let size : length (take k is.ring) ≡ n img = ap (λ j. length (take j is.ring)) e ∙ length-take-le (n img) is.ring (omega (arith, few, ring)) in
      (λ i. told (points x' y') (λ g. tangle_at (size i) g is.records.tangles) (answer_of done (take (e i) is.ring)))
      ∙ told_taken img cs x y was x' y' is (answer_of done (take (n img) is.ring)) t lx ly zx zy room many z.0)
      (λ z.
      let (by_number, line) = told_number img cs x y was x' y' is (answer_of done (take (n img) is.ring)) t lx ly zx zy room many z.0 in
      ap (told (points x' y') (λ e. tangle_at (length (take k is.ring)) e is.records.tangles)) (refused_with done (take (n img) is.ring) (take k is.ring) (number img cs) by_number) ∙ line)
