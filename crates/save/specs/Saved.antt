-- What `save` answers and writes: the image of the state that it is lent, or a refusal.
use Rattle.std.specs.Prelude.{◌≡◌, ◌≤◌, ◌<◌, Bool, ◌&&◌, ◌||◌, false, cond, List, [], ◌∷◌, map, ℕ, ◌-◌, ◌*◌, eqb, ltb, length, get_or, take, ℤ, Result}
use Rattle.algebra.specs.Ranges.{all_below}
use Rattle.geometry.specs.Plane.{Point}
use Rattle.geometry.specs.Lent.{points}
use Rattle.geometry.specs.Answers.{refused, answered, told}
use Rattle.intersection_set.specs.Store.{Rec}
use Rattle.intersection_set.specs.Pool.{pair_of}
use Rattle.machine.specs.Answer.{refusal}
use Rattle.checks.specs.Checks.{any_below}
use Rattle.refusal.specs.declared.Refusal.{Refusal}
use Rattle.job.specs.Buffers.{put}
use Rattle.resume.specs.Image.{image_of}
use Rattle.resume.specs.Check.{savable}
use Rattle.image.specs.Bytes.{image_length, image_bytes}

-- the record at the slot k: its edges by their word, and its age
abbrev pub rec_at : List ℕ → List ℕ → ℕ → Rec
rec_at ends ages k = record { e0 = (pair_of (get_or ends k 0)).e0; e1 = (pair_of (get_or ends k 0)).e1; age = get_or ages k 0; slot = k }

-- the live records, in dense order
abbrev pub records_of : ℕ → List ℕ → List ℕ → List ℕ → List Rec
records_of live dense ends ages = map (rec_at ends ages) (take live dense)

-- each of the live dense entries is a slot
abbrev pub slots_fit : ℕ → ℕ → List ℕ → Bool
slots_fit n live dense = all_below live (λ j. ltb (get_or dense j 0) (n * (n - 1)))

-- so that each of them can be read
pub record Reads (live : ℕ) (dense ends ages : List ℕ) : Type 0 where
  pub few : live ≤ length dense
  pub in_ends : (j : ℕ) → j < live → get_or dense j 0 < length ends
  pub in_ages : (j : ℕ) → j < live → get_or dense j 0 < length ages

-- Check 2: points or ring have fewer than n entries, dense list or pool fewer than n×(n-1), more than these are live, or `out` has no room for the image.
unfoldable pub too_short : (n : ℕ) (x y : List ℤ) (ring : List ℕ) (live : ℕ) (dense ends ages out : List ℕ) → Bool
too_short n x y ring live dense ends ages out =
    any_below n (length x ∷ length y ∷ length ring ∷ []) || (any_below (n * (n - 1)) (length dense ∷ length ends ∷ length ages ∷ []) || (ltb (n * (n - 1)) live || ltb (length out) (image_length n live)))

-- the checks 1 to 7, then 21: the number of the first that refuses, or 0
abbrev pub save_refusal : (n : ℕ) (pt : ℕ → Point) (short : Bool) (r : List ℕ) (live : ℕ) (dense ends ages : List ℕ) → ℕ
save_refusal n pt short r live dense ends ages =
    cond (eqb (refusal n pt short false r) 0)
    (cond (slots_fit n live dense && savable n pt r (records_of live dense ends ages)) 0 21)
    (refusal n pt short false r)

-- of what a call was lent
unfoldable pub saving_refusal : (n : ℕ) (x y : List ℤ) (ring : List ℕ) (live : ℕ) (dense ends ages out : List ℕ) → ℕ
saving_refusal n x y ring live dense ends ages out = save_refusal n (points x y) (too_short n x y ring live dense ends ages out) (take n ring) live dense ends ages

-- The image's length and its bytes at the start of `out`, nothing past them; or a refusal, and `out` as it was.
pub record Saving (n : ℕ) (x y : List ℤ) (ring : List ℕ) (live : ℕ) (dense ends ages out : List ℕ) (r : Result ℕ Refusal) (out' : List ℕ) : Type 0 where
  pub answers : let k = saving_refusal n x y ring live dense ends ages out in told r ≡ cond (eqb k 0) (answered (image_length n live)) (refused k)
  pub bytes : out' ≡ cond (eqb (saving_refusal n x y ring live dense ends ages out) 0) (put out 0 (image_bytes n x y (image_of (take n ring) (records_of live dense ends ages)))) out
