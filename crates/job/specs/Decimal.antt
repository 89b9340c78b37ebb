-- Numbers in decimal, as lists of ASCII codes: 48 is `0`, 45 is `-`.
use Rattle.std.specs.Prelude.{Bool, true, ◌&&◌, cond, List, [], ◌∷◌, ◌++◌, ℕ, zero, suc, ◌+◌, ◌-◌, ◌*◌, ◌/◌, ◌%◌, ltb, leb, ℤ, pos, negsuc}

-- ---- printed
-- A number below ten is its digit; any other the digits of its tenth part and then its last digit. k bounds the digits.
unfoldable pub digits : (k n : ℕ) → List ℕ
digits zero n = []
digits (suc k) n = cond (ltb n 10) ((48 + n) ∷ []) (digits k (n / 10) ++ ((48 + n % 10) ∷ []))

-- a number below 10 ^ 20, so any of 64 bits
unfoldable pub decimal : ℕ → List ℕ
decimal n = digits 20 n

-- a minus sign goes before the digits of a negative number
unfoldable pub integer : ℤ → List ℕ
integer (pos n) = decimal n
integer (negsuc n) = 45 ∷ decimal (suc n)

-- ---- read
abbrev pub is_digit : ℕ → Bool
is_digit d = leb 48 d && leb d 57

-- every code is a digit's
abbrev pub all_digits : List ℕ → Bool
all_digits [] = true
all_digits (d ∷ l) = is_digit d && all_digits l

-- the number that digits mean behind digits that mean v
abbrev pub value_from : ℕ → List ℕ → ℕ
value_from v [] = v
value_from v (d ∷ l) = value_from (10 * v + (d - 48)) l

abbrev pub value : List ℕ → ℕ
value l = value_from 0 l
