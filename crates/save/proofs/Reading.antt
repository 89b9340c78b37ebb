-- The records that are lent, where each dense entry is a slot.
use Rattle.std.specs.Prelude.{◌≡◌, refl, true, false, ◌∷◌, [], List, ℕ, suc, ◌+◌, ◌-◌, ◌*◌, ◌≤◌, ◌<◌, ltb, length, get_or, take, map, ℤ}
use Rattle.std.proofs.Common.{◌∙◌, ap, arith, length-take-le}
use Rattle.std.proofs.lemmas.List.{length-map}
use borrow.Author.Tests.{ltb-true, ltb-false}
use Rattle.algebra.specs.Cases.{or_parts}
use Rattle.algebra.specs.Ranges.{all_true, up_from}
use Rattle.intersection_set.specs.Store.{Rec, no_rec}
use Rattle.checks.specs.Checks.{any_below}
use Rattle.checks.proofs.Checking.{long}
use Rattle.resume.specs.Image.{line_of, image_of}
use Rattle.image.specs.Bytes.{image_length, image_by}
use Rattle.save.specs.Saved.{rec_at, records_of, slots_fit, Reads, too_short}

pub reads : (n : ℕ) {live : ℕ} {dense ends ages : List ℕ} → slots_fit n live dense ≡ true → live ≤ n * (n - 1) → n * (n - 1) ≤ length dense → n * (n - 1) ≤ length ends → n * (n - 1) ≤ length ages
    → Reads live dense ends ages
reads n {live} {dense} t few ld le la =
    let slot : (j : ℕ) → j < live → get_or dense j 0 < n * (n - 1) = λ j h. ltb-true _ _ (all_true live (λ j. ltb (get_or dense j 0) (n * (n - 1))) t j h) in
    record { few = omega (arith, few, ld); in_ends = λ j h. omega (arith, slot j h, le); in_ages = λ j h. omega (arith, slot j h, la) }

pub records_length : (live : ℕ) (dense ends ages : List ℕ) → live ≤ length dense → length (records_of live dense ends ages) ≡ live
records_length live dense ends ages h = length-map (take live dense) (rec_at ends ages) ∙ length-take-le live dense h

-- a list by its entries, in their order
map_from : {A B : Type 0} (f : A → B) (g : ℕ → B) (e : A) (d : List A) (i : ℕ) → ((j : ℕ) → j < length d → g (i + j) ≡ f (get_or d j e)) → map g (up_from i (length d)) ≡ map f d
map_from f g e [] i h = refl
map_from f g e (x ∷ d) i h =
    λ k. (ap g (let z : i ≡ i + 0 = omega arith in z) ∙ h 0 (omega arith)) k ∷ map_from f g e d (suc i) (λ j l. ap g (let z : suc i + j ≡ i + suc j = omega arith in z) ∙ h (suc j) (omega (arith, l))) k

-- the image of the records by their places is that of their list
pub image_is : (n : ℕ) (ring : List ℕ) (d : List Rec) {live : ℕ} → live ≡ length d → image_by n ring live (λ i. line_of d (get_or d i no_rec)) ≡ image_of (take n ring) d
image_is n ring d e = λ k. record { ring = take n ring; lines = (ap (λ m. map (λ i. line_of d (get_or d i no_rec)) (up_from 0 m)) e ∙ map_from (line_of d) (λ i. line_of d (get_or d i no_rec)) no_rec d 0 (λ j l. ap (λ i. line_of d (get_or d i no_rec)) (let z : 0 + j ≡ j = omega arith in z))) k }

-- what is long enough where check 2 passes
pub record Enough (n : ℕ) (x y : List ℤ) (ring : List ℕ) (live : ℕ) (dense ends ages out : List ℕ) : Type 0 where
  pub in_x : n ≤ length x
  pub in_y : n ≤ length y
  pub in_ring : n ≤ length ring
  pub in_dense : n * (n - 1) ≤ length dense
  pub in_ends : n * (n - 1) ≤ length ends
  pub in_ages : n * (n - 1) ≤ length ages
  pub few : live ≤ n * (n - 1)
  pub in_out : image_length n live ≤ length out

pub enough : (n : ℕ) (x y : List ℤ) (ring : List ℕ) (live : ℕ) (dense ends ages out : List ℕ) → too_short n x y ring live dense ends ages out ≡ false → Enough n x y ring live dense ends ages out
unfolding too_short
enough n x y ring live dense ends ages out h =
    let p = or_parts (any_below n (length x ∷ length y ∷ length ring ∷ [])) _ h in
    let q = or_parts (any_below (n * (n - 1)) (length dense ∷ length ends ∷ length ages ∷ [])) _ p.1 in
    let r = or_parts (ltb (n * (n - 1)) live) (ltb (length out) (image_length n live)) q.1 in
    let points = long n (length x ∷ length y ∷ length ring ∷ []) p.0 in
    let records = long (n * (n - 1)) (length dense ∷ length ends ∷ length ages ∷ []) q.0 in
    record {
      in_x = points 0 (omega arith);
      in_y = points 1 (omega arith);
      in_ring = points 2 (omega arith);
      in_dense = records 0 (omega arith);
      in_ends = records 1 (omega arith);
      in_ages = records 2 (omega arith);
      few = ltb-false (n * (n - 1)) live r.0;
      in_out = ltb-false (length out) (image_length n live) r.1;
    }
