-- Ages renumbered by rank are ordered as the ages were; so a state that is saved and taken up is the same but for ages and slots.
use mathlib.Core.Path.{◌≡◌, refl, sym, ◌∙◌, ap}
use mathlib.Core.Bool.{true, not, ◌&&◌}
use mathlib.Core.List.{List, [], ◌∷◌, map}
use Prim.Native.Nat.{ℕ, zero, suc, ◌+◌, ◌≤◌, ◌<◌}
use native.Mathlib.Omega.{arith}
use lib.Dec.{ltb}
use lib.ListN.{length, get_or, length-map}
use borrow.Author.Tests.{ltb-true, ltb-false, lt-ltb, le-ltb}
use Rattle.algebra.specs.Cases.{both, true_or_false}
use Rattle.algebra.specs.Counting.{count_split, count_le, count_at, count_length}
use Rattle.intersection_set.specs.Store.{Rec, Store, no_rec}
use Rattle.intersection_set.proofs.Slots.{Numbered, age_below}
use Rattle.machine.specs.Machine.{State}
use Rattle.resume.specs.Image.{Line, rank, line_of, renumbered, saved, slotted, taken_up, take_up}
use Rattle.resume.specs.AgesAside.{age_at, Twin, Old, SameButAges}

-- ---- ranks
module _ (d : List Rec) where
  rank_up : (j b : ℕ) → j < length d → age_at d j < b → rank d (age_at d j) < rank d b
  rank_up j b h l =
      let a = age_at d j in
      omega (
        arith,
        count_split (λ r. ltb r.age b) (λ r. ltb r.age a) d,
        count_le (λ r. ltb r.age a) (λ r. ltb r.age b && ltb r.age a) (λ r t. rw (t, lt-ltb r.age b (omega (arith, ltb-true r.age a t)))) d,
        count_at (λ r. ltb r.age b && not (ltb r.age a)) d j no_rec h (rw (lt-ltb a b l, le-ltb a a (omega arith))),
      )

  rank_down : (a b : ℕ) → a ≤ b → rank d a ≤ rank d b
  rank_down a b h = count_le (λ r. ltb r.age a) (λ r. ltb r.age b) (λ r t. lt-ltb r.age b (omega (arith, ltb-true r.age a t))) d

  -- the order of ages is kept
  pub rank_order : (j k : ℕ) → j < length d → k < length d → ltb (age_at d j) (age_at d k) ≡ ltb (rank d (age_at d j)) (rank d (age_at d k))
  rank_order j k hj hk =
      both (true_or_false (ltb (age_at d j) (age_at d k)))
      (λ t. t ∙ sym (lt-ltb _ _ (rank_up j (age_at d k) hj (ltb-true _ _ t))))
      (λ t. t ∙ sym (le-ltb (rank d (age_at d j)) (rank d (age_at d k)) (rank_down (age_at d k) (age_at d j) (ltb-false _ _ t))))

  -- each rank is below the count
  pub rank_below : (j : ℕ) → j < length d → rank d (age_at d j) < length d
  rank_below j h =
      let a = age_at d j in
      omega (
        arith,
        count_length d,
        count_split (λ r. true) (λ r. ltb r.age a) d,
        count_at (λ r. not (ltb r.age a)) d j no_rec h (rw (le-ltb a a (omega arith))),
      )

-- ---- taken up
pub slotted_length : (i : ℕ) (ls : List Line) → length (slotted i ls) ≡ length ls
slotted_length i [] = refl
slotted_length i (l ∷ ls) = ap suc (slotted_length (suc i) ls)

abbrev rec_of : ℕ → Line → Rec
rec_of i l = record { e0 = l.e0; e1 = l.e1; age = l.age; slot = i }

slotted_at : (f : Rec → Line) (i : ℕ) (d : List Rec) (k : ℕ) → k < length d → get_or (slotted i (map f d)) k no_rec ≡ rec_of (i + k) (f (get_or d k no_rec))
slotted_at f i [] k h = absurd (omega arith)
slotted_at f i (r ∷ d) zero h = ap (λ (j : ℕ). rec_of j (f r)) (let z : i ≡ i + 0 = omega arith in z)
slotted_at f i (r ∷ d) (suc k) h = slotted_at f (suc i) d k (omega arith) ∙ ap (λ (j : ℕ). rec_of j (f (get_or d k no_rec))) (let z : suc i + k ≡ i + suc k = omega arith in z)

module _ (d : List Rec) where
  abbrev up : List Rec
  up = slotted 0 (renumbered d)

  up_length : length up ≡ length d
  up_length = slotted_length 0 (renumbered d) ∙ length-map d (line_of d)

  up_age : (k : ℕ) → k < length d → age_at up k ≡ rank d (age_at d k)
  up_age k h = ap (λ (r : Rec). r.age) (slotted_at (line_of d) 0 d k h)

  pub saved_twin : Twin d up
  saved_twin = record {
    count = sym up_length;
    first = λ k h. sym (ap (λ (r : Rec). r.e0) (slotted_at (line_of d) 0 d k h));
    second = λ k h. sym (ap (λ (r : Rec). r.e1) (slotted_at (line_of d) 0 d k h));
    order = λ j k hj hk. rank_order d j k hj hk ∙ (λ i. ltb (sym (up_age j hj) i) (sym (up_age k hk) i));
  }

  pub saved_old : Old (taken_up (renumbered d))
  saved_old k h = omega (arith, up_length, up_age k (omega (arith, up_length)), rank_below d k (omega (arith, up_length)), length-map d (line_of d))

-- A state that is saved and taken up again is the same but for ages and slots.
pub saved_same : (s : State) → Old s.store → SameButAges s (take_up (saved s))
saved_same s old = record { ring = refl; records = saved_twin s.store.dense; old = old; old' = saved_old s.store.dense }

-- ages that are numbered are old
pub numbered_old : (s : Store) → Numbered s → Old s
numbered_old s num k h = age_below s num k h
