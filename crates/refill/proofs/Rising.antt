-- Records by rising age: the same records, and where the ages are 0 up to the count less one, each stands at the place of its age.
use mathlib.Core.Path.{◌≡◌, refl, sym, ap, ◌∙◌}
use mathlib.Core.Bool.{Bool, true, false, cond}
use mathlib.Core.List.{List, [], ◌∷◌}
use Prim.Native.Nat.{ℕ, zero, suc, ◌+◌, ◌≤◌, ◌<◌}
use native.Mathlib.Omega.{arith}
use borrow.Author.Tests.{ltb-true, ltb-false, lt-ltb, le-ltb, eq-eqb}
use lib.Dec.{eqb, ltb}
use lib.ListN.{length}
use Rattle.algebra.specs.Cases.{both, true_or_false}
use Rattle.algebra.specs.Counting.{one, one_le, count_p, count_le, count_at}
use Rattle.intersection_set.specs.Store.{Rec, no_rec}
use Rattle.intersection_set.specs.Numbered.{Ages}
use Rattle.intersection_set.specs.Filling.{Shuffled}
use Rattle.resume.specs.Image.{rank}
use Rattle.resume.specs.AgesAside.{age_at}
use Rattle.resume.proofs.BackAgain.{rank_own, ages_below}
use Rattle.refill.specs.Filling.{insert_up, rising}

insert_count : (p : Rec → Bool) (r : Rec) (l : List Rec) → count_p p (insert_up r l) ≡ one (p r) + count_p p l
insert_count p r [] = refl
insert_count p r (y ∷ l) = go (ltb r.age y.age) (insert_count p r l)
  where
    go : (b : Bool) → count_p p (insert_up r l) ≡ one (p r) + count_p p l
        → count_p p (cond b (r ∷ y ∷ l) (y ∷ insert_up r l)) ≡ one (p r) + (one (p y) + count_p p l)
    go true h = refl
    go false h = omega arith

pub rising_shuffled : (d : List Rec) → Shuffled d (rising d)
rising_shuffled [] q = refl
rising_shuffled (r ∷ d) q = insert_count q r (rising d) ∙ ap (λ (x : ℕ). one (q r) + x) (rising_shuffled d q)

-- each record is older than all behind it
abbrev Rises : List Rec → Type 0
Rises [] = Unit {0}
Rises (r ∷ l) = (count_p (λ x. ltb x.age (suc r.age)) l ≡ 0) × Rises l

insert_rises : (r : Rec) (l : List Rec) → count_p (λ x. eqb r.age x.age) l ≡ 0 → Rises l → Rises (insert_up r l)
insert_rises r [] h f = (refl, tt)
insert_rises r (y ∷ l) h f = go (ltb r.age y.age) refl (insert_rises r l (omega arith) f.1)
  where
    go : (b : Bool) → ltb r.age y.age ≡ b → Rises (insert_up r l) → Rises (cond b (r ∷ y ∷ l) (y ∷ insert_up r l))
    go true u k =
        let q : r.age < y.age = ltb-true _ _ u in (
          omega (
            arith,
            ap one (le-ltb y.age (suc r.age) q),
            f.0,
            count_le (λ x. ltb x.age (suc r.age)) (λ x. ltb x.age (suc y.age))
                (λ x t. lt-ltb x.age (suc y.age) (omega (arith, ltb-true x.age (suc r.age) t))) l,
          ),
          f,
        )
    go false u k =
        let q : y.age ≤ r.age = ltb-false _ _ u in
        let d : r.age ≡ y.age → ⊥ = λ w. omega (arith, h, ap one (eq-eqb r.age y.age w)) in
        (omega (arith, insert_count (λ x. ltb x.age (suc y.age)) r l, f.0, ap one (le-ltb r.age (suc y.age) (omega (arith, q, d)))), k)

rising_rises : (d : List Rec) → ((a : ℕ) → count_p (λ r. eqb a r.age) d ≤ 1) → Rises (rising d)
rising_rises [] h = tt
rising_rises (r ∷ d) h =
    insert_rises r (rising d) (omega (arith, rising_shuffled d (λ x. eqb r.age x.age), h r.age, ap one (eq-eqb r.age r.age refl)))
    (rising_rises d (λ a. omega (arith, h a)))

-- a record's place is its rank
place_rank : (l : List Rec) → Rises l → (j : ℕ) → j < length l → rank l (age_at l j) ≡ j
place_rank [] f j h = absurd (omega arith)
place_rank (r ∷ l) f zero h =
    omega (
      arith,
      ap one (le-ltb r.age r.age (omega arith)),
      f.0,
      count_le (λ x. ltb x.age r.age) (λ x. ltb x.age (suc r.age)) (λ x t. lt-ltb x.age (suc r.age) (omega (arith, ltb-true x.age r.age t))) l,
    )
place_rank (r ∷ l) f (suc j) h =
    omega (arith, place_rank l f.1 j (omega arith), ap one (lt-ltb r.age (age_at l j) (older j (omega arith))))
  where
    older : (j : ℕ) → j < length l → r.age < age_at l j
    older j h =
        both (true_or_false (ltb r.age (age_at l j))) (ltb-true _ _)
        (λ t.
        let up : age_at l j < suc r.age = omega (arith, ltb-false r.age (age_at l j) t) in
        absurd (omega (arith, f.0, count_at (λ x. ltb x.age (suc r.age)) l j no_rec h (lt-ltb (age_at l j) (suc r.age) up))))

-- with the ages 0 up to the count less one, the place is the age
module _ (d : List Rec) (ages : Ages d (length d)) where
  once : (a : ℕ) → count_p (λ r. eqb a r.age) d ≤ 1
  once a = omega (arith, ages a, one_le (ltb a (length d)) true (λ _. refl))

  pub age_place : (j : ℕ) → j < length (rising d) → age_at (rising d) j ≡ j
  age_place j h =
      let same : Ages (rising d) (length d) = λ a. omega (arith, rising_shuffled d (λ r. eqb a r.age), ages a) in
      let below : age_at (rising d) j < length d = ages_below (rising d) (length d) same j h in
      sym (rank_own d (length d) ages (ages_below d (length d) ages) refl (age_at (rising d) j) (omega arith))
      ∙ sym (rising_shuffled d (λ r. ltb r.age (age_at (rising d) j)))
      ∙ place_rank (rising d) (rising_rises d once) j h
