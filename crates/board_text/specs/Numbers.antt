-- What a field of a line means as a number.
use Rattle.std.specs.Prelude.{Bool, false, cond, List, [], ◌∷◌, ℕ, ◌+◌, ◌-◌, ◌*◌, ◌^◌, min, drop, eqb, leb, ltb, ℤ, pos, neg_ℤ, Result, Ok, Err}
use Rattle.job.specs.Decimal.{all_digits, value}
use Rattle.board_text.specs.declared.fault.LineError.{LineError}
use Rattle.board_text.specs.declared.fault.LineError.TheVariants as error

-- no number, one that 32 bits do not hold, or a number
pub data Parsed (A : Type 0) : Type 0 where
  malformed : Parsed A
  out_of_range : Parsed A
  number : A → Parsed A

-- one or more decimal digits
abbrev pub natural : List ℕ → Parsed ℕ
natural [] = malformed
natural (d ∷ l) = cond (all_digits (d ∷ l)) (number (value (d ∷ l))) malformed

-- a pick: a number below 2³²
abbrev pub below : ℕ → Parsed ℕ → Parsed ℕ
below b malformed = malformed
below b out_of_range = out_of_range
below b (number n) = cond (ltb n b) (number n) out_of_range

abbrev pub word : List ℕ → Parsed ℕ
word l = below (2 ^ 32) (natural l)

-- a coordinate: a number from -2³¹ to 2³¹ - 1, with a minus sign before it if it is negative
abbrev pub plus : Parsed ℕ → Parsed ℤ
plus malformed = malformed
plus out_of_range = out_of_range
plus (number n) = cond (ltb n (2 ^ 31)) (number (pos n)) out_of_range

abbrev pub minus : Parsed ℕ → Parsed ℤ
minus malformed = malformed
minus out_of_range = out_of_range
minus (number n) = cond (leb n (2 ^ 31)) (number (neg_ℤ (pos n))) out_of_range

abbrev pub minus_first : List ℕ → Bool
minus_first [] = false
minus_first (a ∷ l) = eqb a 45

abbrev pub coordinate : List ℕ → Parsed ℤ
coordinate l = cond (minus_first l) (minus (natural (drop 1 l))) (plus (natural l))

-- ---- the code's answers in these words
-- A natural number is told up to 10¹⁰, which is more than 32 bits hold.
abbrev pub cap : ℕ
cap = 10000000000

abbrev pub capped : Parsed ℕ → Parsed ℕ
capped malformed = malformed
capped out_of_range = out_of_range
capped (number n) = number (min n cap)

-- one digit more, up to the cap
abbrev pub shifted : ℕ → ℕ → ℕ
shifted v d = min (10 * v + (d - 48)) cap

abbrev pub parsed_of : {A : Type 0} → Result A LineError → Parsed A
parsed_of (Ok v) = number v
parsed_of (Err error.OutOfRange) = out_of_range
parsed_of (Err error.Malformed) = malformed
