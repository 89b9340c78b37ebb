-- What ages in rising order say of the records.
use Rattle.std.specs.Prelude.{◌≡◌, refl, Bool, true, false, List, [], ◌∷◌, ℕ, zero, suc, ◌+◌, ◌-◌, ◌≤◌, ◌<◌, eqb, ltb, length, get_or, map}
use Rattle.std.proofs.Common.{sym, ◌∙◌, ap, arith}
use Rattle.std.specs.List.{sum_by}
use Rattle.std.specs.List.Sorted.{IsPermutation, IsNonDecreasing}
use Rattle.std.proofs.lemmas.List.{length-map, get_or-map, ext_get_or}
use Rattle.std.proofs.lemmas.List.Sums.{sum_by-cons}
use Rattle.std.proofs.lemmas.List.Sorted.{length_permutation, sum_by-IsPermutation}
use borrow.Author.Tests.{ltb-true, lt-ltb, le-ltb, eqb-true, eq-eqb, ne_eqb}
use Rattle.algebra.specs.Cases.{both, eq_cases, le_cases}
use Rattle.algebra.specs.Counting.{one, one_le, count_p, count_at, count_at_two, count_zero, count_map}
use Rattle.algebra.specs.Ranges.{all_below, all_true, true_all}
use Rattle.intersection_set.specs.Store.{Rec, no_rec}
use Rattle.intersection_set.specs.Numbered.{Ages}
use Rattle.resume.specs.Image.{rank}
use Rattle.resume.specs.AgesAside.{age_at}
use Rattle.resume.specs.Check.{ages_all, ages_differ}
use Rattle.resume.proofs.Checking.{ages_decide, differ_decide}
use Rattle.audit.specs.Sorted.{Sorted}

-- two tests that each yield the other are one
same_from : (a b : Bool) → (a ≡ true → b ≡ true) → (b ≡ true → a ≡ true) → a ≡ b
same_from true b x y = sym (x refl)
same_from false true x y = y refl
same_from false false x y = refl

-- ---- a list where each is less than the next
-- at place i of a list that rises there stands i or more, and at most the greatest less what follows
abbrev pub Climbs : List ℕ → Type 0
Climbs l = (i : ℕ) → suc i < length l → get_or l i 0 < get_or l (suc i) 0

climbs_from : (l : List ℕ) → Climbs l → (i : ℕ) → i < length l → i ≤ get_or l i 0
climbs_from l c zero h = omega arith
climbs_from l c (suc i) h = omega (arith, climbs_from l c i (omega arith), c i h)

climbs_apart : (l : List ℕ) → Climbs l → (i k : ℕ) → i + k < length l → get_or l i 0 + k ≤ get_or l (i + k) 0
climbs_apart l c i zero h = omega (arith, ap (λ j. get_or l j 0) (let z : i + 0 ≡ i = omega arith in z))
climbs_apart l c i (suc k) h =
    omega (arith, climbs_apart l c i k (omega arith), c (i + k) (omega arith), ap (λ j. get_or l j 0) (let z : suc (i + k) ≡ i + suc k = omega arith in z))

-- where all are below the length, each is its place
climbs_is : (l : List ℕ) → Climbs l → ((i : ℕ) → i < length l → get_or l i 0 < length l) → (i : ℕ) → i < length l → get_or l i 0 ≡ i
climbs_is l c below i h =
    let k : ℕ = length l - 1 - i in
    let e : i + k ≡ length l - 1 = omega arith in
    omega (arith, climbs_from l c i h, climbs_apart l c i k (omega arith), below (i + k) (omega arith))

-- none comes twice
climbs_count : (l : List ℕ) → Climbs l → (a : ℕ) → count_p (eqb a) l ≤ 1
climbs_count [] c a = omega arith
climbs_count (x ∷ l) c a =
    both (eq_cases a x)
    (λ e. omega (arith, ap one e.1, count_zero (eqb a) l 0 (λ k h. ne_eqb a (get_or l k 0) (λ z. omega (arith, z, e.0, climbs_apart (x ∷ l) c 0 (suc k) (omega (arith, h)), ap (λ j. get_or (x ∷ l) j 0) (let z : 0 + suc k ≡ suc k = omega arith in z))))))
    (λ e. omega (arith, ap one e.1, climbs_count l (λ i h. c (suc i) (omega (arith, h))) a))

-- a test that the first k pass, and no other
first_pass : (p : ℕ → Bool) (l : List ℕ) (k : ℕ) → k ≤ length l → ((i : ℕ) → i < k → p (get_or l i 0) ≡ true) → ((i : ℕ) → k ≤ i → i < length l → p (get_or l i 0) ≡ false) → count_p p l ≡ k
first_pass p l zero h t f = count_zero p l 0 (λ i z. f i (omega arith) z)
first_pass p [] (suc k) h t f = absurd (omega (arith, h))
first_pass p (x ∷ l) (suc k) h t f =
    omega (arith, ap one (t 0 (omega arith)), first_pass p l k (omega (arith, h)) (λ i z. t (suc i) (omega (arith, z))) (λ i z w. f (suc i) (omega (arith, z)) (omega (arith, w))))

-- ---- of records
module _ {d : List Rec} {l : List ℕ} (s : Sorted d l) where
  -- ages that differ climb
  once_climbs : ((a : ℕ) → count_p (λ r. eqb a r.age) d ≤ 1) → Climbs l
  once_climbs h i k =
      both (eq_cases (get_or l i 0) (get_or l (suc i) 0))
      (λ e. absurd (omega (arith, h (get_or l i 0), s.same (eqb (get_or l i 0)), count_at_two (eqb (get_or l i 0)) l i (suc i) 0 (omega arith) k (eq-eqb (get_or l i 0) (get_or l i 0) refl) (eq-eqb (get_or l i 0) (get_or l (suc i) 0) e.0))))
      (λ e. omega (arith, e.0, s.rising i (suc i) (omega arith) k))

  -- ---- the tests
  pub differ_is : {b : Bool} → b ≡ all_below (length l - 1) (λ i. ltb (get_or l i 0) (get_or l (i + 1) 0)) → b ≡ ages_differ d
  differ_is {b} e = same_from b (ages_differ d) (λ t. (differ_decide d).1 (is (sym e ∙ t))) (λ t. e ∙ if ((differ_decide d).0 t))
    where
      test : ℕ → Bool
      test i = ltb (get_or l i 0) (get_or l (i + 1) 0)

      next : (i : ℕ) → get_or l (i + 1) 0 ≡ get_or l (suc i) 0
      next i = ap (λ j. get_or l j 0) (let z : i + 1 ≡ suc i = omega arith in z)

      is : all_below (length l - 1) test ≡ true → (a : ℕ) → count_p (λ r. eqb a r.age) d ≤ 1
      is t a = omega (arith, s.same (eqb a), climbs_count l (λ i h. omega (arith, next i, ltb-true _ _ (all_true (length l - 1) test t i (omega (arith, h))))) a)

      if : ((a : ℕ) → count_p (λ r. eqb a r.age) d ≤ 1) → all_below (length l - 1) test ≡ true
      if h = true_all (length l - 1) test (λ i k. lt-ltb (get_or l i 0) (get_or l (i + 1) 0) (omega (arith, next i, once_climbs h i (omega (arith, k)))))

  pub all_is : {b : Bool} → b ≡ all_below (length l) (λ i. eqb (get_or l i 0) i) → b ≡ ages_all d
  all_is {b} e = same_from b (ages_all d) (λ t. (ages_decide d).1 (is (sym e ∙ t))) (λ t. e ∙ if ((ages_decide d).0 t))
    where
      test : ℕ → Bool
      test i = eqb (get_or l i 0) i

      is : all_below (length l) test ≡ true → Ages d (length d)
      is t a =
          let there : (i : ℕ) → i < length l → get_or l i 0 ≡ i = λ i h. eqb-true (get_or l i 0) i (all_true (length l) test t i h) in
          let once = climbs_count l (λ i h. omega (arith, there i (omega (arith, h)), there (suc i) h)) a in
          both (le_cases (suc a) (length d))
          (λ h. omega (arith, s.same (eqb a), once, ap one (lt-ltb a (length d) h.0)))
          (λ h. omega (arith, s.same (eqb a), s.size, count_zero (eqb a) l 0 (λ i k. ne_eqb a (get_or l i 0) (λ z. omega (arith, z, there i k, k, h.0, s.size)))))

      if : Ages d (length d) → all_below (length l) test ≡ true
      if ages =
          let one_each : (a : ℕ) → count_p (λ r. eqb a r.age) d ≤ 1 = λ a. omega (arith, ages a, one_le (ltb a (length d)) true (λ _. refl)) in
          true_all (length l) test (λ i h. eq-eqb (get_or l i 0) i (climbs_is l (once_climbs one_each) below i h))
        where
          below : (i : ℕ) → i < length l → get_or l i 0 < length l
          below i h =
              let a = get_or l i 0 in
              both (le_cases (suc a) (length l)) (λ z. z.0)
              (λ z. absurd (omega (arith, ages a, ap one (le-ltb a (length d) (omega (arith, z.0, s.size))), s.same (eqb a), count_at (eqb a) l i 0 h (eq-eqb a a refl))))

  -- the first k are less, and no other
  pub rank_is : (a k : ℕ) → k ≤ length l → ((i : ℕ) → i < k → get_or l i 0 < a) → ((i : ℕ) → k ≤ i → i < length l → a ≤ get_or l i 0) → k ≡ rank d a
  rank_is a k h less more =
      sym (first_pass (λ x. ltb x a) l k h (λ i z. lt-ltb (get_or l i 0) a (less i z)) (λ i z w. le-ltb (get_or l i 0) a (more i z w))) ∙ s.same (λ x. ltb x a)

-- ---- after a sort
count_sum : (p : ℕ → Bool) (l : List ℕ) → count_p p l ≡ sum_by (λ x. one (p x)) l
count_sum p [] = refl
count_sum p (x ∷ l) = omega (arith, count_sum p l, sum_by-cons (λ x. one (p x)) x l)

pub sorted_is : {d : List Rec} {xs ys : List ℕ} → length xs ≡ length d → ((k : ℕ) → k < length d → get_or xs k 0 ≡ age_at d k) → IsPermutation xs ys → IsNonDecreasing ys → Sorted d ys
sorted_is {d} {xs} {ys} size ages moved rises = record {
  size = length_permutation xs ys moved ∙ size;
  same = λ p. count_sum p ys ∙ sum_by-IsPermutation (λ x. one (p x)) xs ys moved ∙ sym (count_sum p xs) ∙ ap (count_p p) is ∙ count_map p (λ r. r.age) d;
  rising = λ i j h l. rises i j 0 h l;
}
  where
    is : xs ≡ map (λ r. r.age) d
    is = ext_get_or 0 xs (map (λ r. r.age) d) (size ∙ sym (length-map d (λ r. r.age))) (λ k h. ages k (omega (arith, h, size)) ∙ sym (get_or-map (λ r. r.age) d k no_rec 0 (omega (arith, h, size))))
