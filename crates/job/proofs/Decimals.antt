-- The text of a number: the steps by which it is written, its length, and that it reads back as the number.
use mathlib.Core.Path.{◌≡◌, refl}
use mathlib.Core.Bool.{true}
use mathlib.Core.List.{List, [], ◌∷◌, ◌++◌}
use Prim.Native.Nat.{ℕ, zero, suc, ◌+◌, ◌-◌, ◌*◌, ◌/◌, ◌%◌, ◌^◌, ◌≤◌, ◌<◌}
use native.Mathlib.Omega.{arith}
use native.Mathlib.Nat.{pow-suc}
use lib.ListN.{length, length-append}
use lib.IntN.{ℤ, pos, negsuc}
use Rattle.job.specs.Decimal.{digits, decimal, integer, is_digit, all_digits, value_from, value}

-- one more place changes nothing
digits_enough : (k n : ℕ) → n < 10 ^ suc k → digits (suc k) n ≡ digits (suc (suc k)) n
unfolding digits
digits_enough zero n h = grind arith
digits_enough (suc k) n h =
    let p : n < 10 ^ suc k * 10 = rw (pow-suc 10 (suc k)) at h in
    let q : n / 10 < 10 ^ suc k = omega arith in
    grind (arith, digits_enough k (n / 10) q)

pub decimal_small : (n : ℕ) → n < 10 → decimal n ≡ (48 + n) ∷ []
unfolding decimal digits
decimal_small n h = grind arith

pub decimal_more : (n : ℕ) → 10 ≤ n → n < 10 ^ 20 → decimal n ≡ decimal (n / 10) ++ ((48 + n % 10) ∷ [])
unfolding decimal digits
decimal_more n h k = grind (arith, digits_enough 18 (n / 10) (omega arith))

-- ---- how long a number is
length_digits : (k n : ℕ) → length (digits k n) ≤ k
unfolding digits
length_digits zero n = omega arith
length_digits (suc k) n = grind (arith, length_digits k (n / 10), length-append)

pub length_decimal : (n : ℕ) → length (decimal n) ≤ 20
unfolding decimal
length_decimal n = length_digits 20 n

-- a number of at most k + 1 digits
length_below : (j k n : ℕ) → n < 10 ^ suc k → length (digits j n) ≤ suc k
unfolding digits
length_below zero k n h = omega arith
length_below (suc j) zero n h = grind arith
length_below (suc j) (suc k) n h =
    let p : n < 10 ^ suc k * 10 = rw (pow-suc 10 (suc k)) at h in
    let q : n / 10 < 10 ^ suc k = omega arith in
    grind (arith, length_below j k (n / 10) q, length-append)

pub length_u16 : (n : ℕ) → n < 65536 → length (decimal n) ≤ 5
unfolding decimal
length_u16 n h = length_below 20 4 n (let p : n < 10 ^ 5 = omega arith in p)

pub length_integer : (z : ℤ) → length (integer z) ≤ 21
unfolding integer
length_integer (pos n) = omega (arith, length_decimal n)
length_integer (negsuc n) = omega (arith, length_decimal (suc n))

pub length_small : (v : ℕ) → v < 10 → length (decimal v) ≡ 1
length_small v h = rw (decimal_small v h)

pub length_more : (v : ℕ) → 10 ≤ v → v < 10 ^ 20 → length (decimal v) ≡ length (decimal (v / 10)) + 1
length_more v h k = rw (decimal_more v h k, length-append)

-- ---- read back: every code is a digit, and together they mean the number
pub value_append : (l : List ℕ) (v d : ℕ) → value_from v (l ++ (d ∷ [])) ≡ 10 * value_from v l + (d - 48)
value_append [] v d = refl
value_append (a ∷ l) v d = value_append l (10 * v + (a - 48)) d

pub all_append : (l : List ℕ) (d : ℕ) → all_digits l ≡ true → is_digit d ≡ true → all_digits (l ++ (d ∷ [])) ≡ true
all_append [] d h k = rw k
all_append (a ∷ l) d h k = grind (arith, all_append l d)

decimal_reads : (k n : ℕ) → n < 10 ^ suc k → (value (digits (suc k) n) ≡ n) × (all_digits (digits (suc k) n) ≡ true)
unfolding digits
decimal_reads zero n h = (grind arith, grind arith)
decimal_reads (suc k) n h =
    let p : n < 10 ^ suc k * 10 = rw (pow-suc 10 (suc k)) at h in
    let q : n / 10 < 10 ^ suc k = omega arith in
    let back = decimal_reads k (n / 10) q in
    let last = value_append (digits (suc k) (n / 10)) 0 (48 + n % 10) in
    let all = all_append (digits (suc k) (n / 10)) (48 + n % 10) back.1 (grind arith) in
    (grind (arith, last, back.0), grind (arith, all))

pub decimal_right : (n : ℕ) → n < 10 ^ 20 → (value (decimal n) ≡ n) × (all_digits (decimal n) ≡ true)
unfolding decimal
decimal_right n h = decimal_reads 19 n h
