-- Sums: of the numbers that a function gives from 0 on, and over a list.
use Rattle.std.specs.Prelude.{◌≡◌, refl, Bool, List, [], ◌∷◌, map, ℕ, zero, suc, ◌+◌, ◌-◌, ◌<◌}
use Rattle.std.proofs.Common.{ap, arith, add-one}
use Rattle.algebra.specs.Counting.{one, count_p}
use Rattle.algebra.specs.Ranges.{up_from}

-- f 0 + f 1 + .. + f (n - 1)
abbrev pub sum_to : (ℕ → ℕ) → ℕ → ℕ
sum_to f zero = 0
sum_to f (suc n) = sum_to f n + f n

-- one more, as a loop goes
pub sum_next : (f : ℕ → ℕ) (k : ℕ) {s x : ℕ} → s ≡ sum_to f k → x ≡ f k → s + x ≡ sum_to f (k + 1)
sum_next f k es ex = rw (es, ex, add-one)

pub sum_front : (f : ℕ → ℕ) (n : ℕ) → sum_to f (suc n) ≡ f 0 + sum_to (λ i. f (suc i)) n
sum_front f zero = omega arith
sum_front f (suc n) = omega (arith, sum_front f n)

pub sum_same : (f g : ℕ → ℕ) (n : ℕ) → ((i : ℕ) → i < n → f i ≡ g i) → sum_to f n ≡ sum_to g n
sum_same f g zero h = refl
sum_same f g (suc n) h = omega (arith, sum_same f g n (λ i l. h i (omega arith)), h n (omega arith))

-- the last first
pub sum_back : (f : ℕ → ℕ) (n : ℕ) → sum_to (λ i. f (n - suc i)) n ≡ sum_to f n
sum_back f zero = refl
sum_back f (suc n) =
    let first : f (suc n - 1) ≡ f n = ap f (omega arith) in
    let others = sum_same (λ i. f (suc n - suc (suc i))) (λ i. f (n - suc i)) n (λ i l. ap f (omega arith)) in
    omega (arith, sum_front (λ i. f (suc n - suc i)) n, first, others, sum_back f n)

pub sum_none : (n : ℕ) → sum_to (λ i. 0) n ≡ 0
sum_none zero = refl
sum_none (suc n) = omega (arith, sum_none n)

pub sum_more : (f g : ℕ → ℕ) (n : ℕ) → sum_to (λ i. f i + g i) n ≡ sum_to f n + sum_to g n
sum_more f g zero = refl
sum_more f g (suc n) = omega (arith, sum_more f g n)

-- the sum of f over a list
abbrev pub sum_over : {A : Type 0} → (A → ℕ) → List A → ℕ
sum_over f [] = 0
sum_over f (x ∷ l) = f x + sum_over f l

pub sum_table : {A : Type 0} (f : A → ℕ) (g : ℕ → A) (s n : ℕ) → sum_over f (map g (up_from s n)) ≡ sum_to (λ i. f (g (s + i))) n
sum_table f g s zero = refl
sum_table f g s (suc n) =
    let a : f (g s) ≡ f (g (s + 0)) = ap (λ k. f (g k)) (omega arith) in
    let b = sum_same (λ i. f (g (suc s + i))) (λ i. f (g (s + suc i))) n (λ i l. ap (λ k. f (g k)) (omega arith)) in
    omega (arith, a, b, sum_table f g (suc s) n, sum_front (λ i. f (g (s + i))) n)

-- a count is a sum
pub count_sum : {A : Type 0} (p : A → Bool) (l : List A) → count_p p l ≡ sum_over (λ x. one (p x)) l
count_sum p [] = refl
count_sum p (x ∷ l) = omega (arith, count_sum p l)
