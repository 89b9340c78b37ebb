-- Numbers that pass a test: one after the other, as a loop goes; a test within another; and what is known of each.
use Rattle.std.specs.Prelude.{◌≡◌, refl, Bool, true, ◌&&◌, cond, List, [], ◌∷◌, ◌++◌, filter, ℕ, zero, suc, ◌+◌, ◌≤◌, ◌<◌, length, take}
use Rattle.std.proofs.Common.{◌∙◌, ap, arith, add-one}
use Rattle.std.proofs.Math.Seq.{take-suc}
use Rattle.std.proofs.lemmas.List.Elements.{filter-append}
use Rattle.algebra.specs.Cases.{both, true_or_false}
use Rattle.algebra.specs.Counting.{count_p}
use Rattle.algebra.specs.Ranges.{up_from}
use Rattle.polygon.specs.Ring.{at}

filter_one : (q : ℕ → Bool) (x : ℕ) → filter q (x ∷ []) ≡ cond (q x) (x ∷ []) []
filter_one q x = both (true_or_false (q x)) (λ t. rw t) (λ t. rw t)

-- one more
pub filter_turn : (q : ℕ → Bool) (l : List ℕ) (i : ℕ) → i < length l
    → filter q (take (i + 1) l) ≡ filter q (take i l) ++ cond (q (at l i)) (at l i ∷ []) []
filter_turn q l i h =
    ap (λ m. filter q (take m l)) (add-one i) ∙ ap (filter q) (take-suc l i 0 h)
    ∙ filter-append q (take i l) (at l i ∷ []) ∙ ap (λ m. filter q (take i l) ++ m) (filter_one q (at l i))

-- no more than there were
pub filter_few : (q : ℕ → Bool) (l : List ℕ) → length (filter q l) ≤ length l
filter_few q [] = omega arith
filter_few q (x ∷ l) = both (true_or_false (q x)) (λ t. rw t (omega (arith, filter_few q l))) (λ t. rw t (omega (arith, filter_few q l)))

-- what passes p passes q: asked of those that pass q, p finds the same
pub filter_within : (p q : ℕ → Bool) (i k : ℕ) → ((j : ℕ) → i ≤ j → j < i + k → p j ≡ true → q j ≡ true)
    → filter p (filter q (up_from i k)) ≡ filter p (up_from i k)
filter_within p q i zero h = refl
filter_within p q i (suc k) h =
    let more = filter_within p q (suc i) k (λ j a l. h j (omega (arith, a)) (omega (arith, l))) in
    both (true_or_false (p i))
    (λ t. let u = h i (omega arith) (omega arith) t in rw (t, u, t) (ap (λ l. i ∷ l) more))
    (λ t. both (true_or_false (q i)) (λ u. rw (t, u, t) more) (λ u. rw (t, u) more))

-- asked of those that pass q, p counts those that pass both
pub count_within : (p q : ℕ → Bool) (l : List ℕ) → count_p p (filter q l) ≡ count_p (λ j. p j && q j) l
count_within p q [] = refl
count_within p q (x ∷ l) =
    let more = count_within p q l in
    both (true_or_false (q x))
    (λ u. both (true_or_false (p x)) (λ t. rw (u, t) (omega (arith, more))) (λ t. rw (u, t) (omega (arith, more))))
    (λ u. both (true_or_false (p x)) (λ t. rw (u, t) (omega (arith, more))) (λ t. rw (u, t) (omega (arith, more))))

-- each of those that pass does, and is one of the numbers
pub passes : (q : ℕ → Bool) (i k m : ℕ) → m < length (filter q (up_from i k))
    → let x = at (filter q (up_from i k)) m in (x < i + k) × (q x ≡ true)
passes q i zero m h = absurd (omega arith)
passes q i (suc k) zero h =
    both (true_or_false (q i))
    (λ t. rw t (omega arith, t))
    (λ t. rw t (let r = passes q (suc i) k zero (rw t at h) in (omega (arith, r.0), r.1)))
passes q i (suc k) (suc m) h =
    both (true_or_false (q i))
    (λ t. rw t (let g = rw t at h in let r = passes q (suc i) k m (omega (arith, g)) in (omega (arith, r.0), r.1)))
    (λ t. rw t (let r = passes q (suc i) k (suc m) (rw t at h) in (omega (arith, r.0), r.1)))
