-- What a line of a board means.
use Rattle.std.specs.Prelude.{Bool, not, ◌||◌, cond, List, [], ◌∷◌, filter, ℕ, eqb, length, Result, Ok, Err, Option, Some, None}
use Rattle.std.specs.List.{slice_split}
use Rattle.std.specs.Cmp.Lexicographic.{pointwise}
use Rattle.board_text.specs.Numbers.{Parsed, malformed, out_of_range, number, coordinate, word}
use Rattle.board_text.specs.declared.fault.LineError.{LineError}
use Rattle.board_text.specs.declared.fault.LineError.TheVariants as error
use Rattle.board_text.specs.declared.line.Fields.{Fields}
use Rattle.job.specs.Ascii.{ascii}
use Rattle.board_text.specs.declared.line.Line.{Line}
use Rattle.board_text.specs.declared.line.Line.TheVariants.{Blank, Pad, Pick, Picks}
use Rattle.board_text.specs.declared.line.Pad.{Pad as PadValue}

-- a comment starts with `#`
abbrev pub is_hash : ℕ → Bool
is_hash b = eqb b 35

-- a space, a tab or a carriage return
abbrev pub is_gap : ℕ → Bool
is_gap b = eqb b 32 || (eqb b 9 || eqb b 13)

abbrev pub is_empty : List ℕ → Bool
is_empty l = eqb (length l) 0

-- the first part, if there is one
abbrev pub head_or : List (List ℕ) → List ℕ
head_or [] = []
head_or (a ∷ l) = a

-- what stands before the first `#`: the first of the parts between them
abbrev pub before_comment : List ℕ → List ℕ
before_comment line = head_or (slice_split is_hash line)

-- a text cut at the gaps; of that the parts that are not empty
abbrev pub cut : List ℕ → List (List ℕ)
cut text = filter (λ l. not (is_empty l)) (slice_split is_gap text)

-- The fields of a line.
abbrev pub fields : List ℕ → List (List ℕ)
fields line = cut (before_comment line)

-- ---- at most three of them
pub record Three : Type 0 where
  pub first : List ℕ
  pub second : List ℕ
  pub third : List ℕ

-- A missing field is as an empty one.
abbrev pub up_to_three : List (List ℕ) → Parsed (Option Three)
up_to_three [] = number None
up_to_three (a ∷ []) = number (Some (record { first = a; second = []; third = [] }))
up_to_three (a ∷ b ∷ []) = number (Some (record { first = a; second = b; third = [] }))
up_to_three (a ∷ b ∷ c ∷ []) = number (Some (record { first = a; second = b; third = c }))
up_to_three (a ∷ b ∷ c ∷ d ∷ l) = malformed

abbrev pub fields_of : List ℕ → Parsed (Option Three)
fields_of line = up_to_three (fields line)

-- ---- a pad
-- Where a is read, what f makes of it; else why it is not.
abbrev pub and_then : {A B : Type 0} → Parsed A → (A → Parsed B) → Parsed B
and_then malformed f = malformed
and_then out_of_range f = out_of_range
and_then (number a) f = f a

-- its two coordinates: the first that is none tells why
unfoldable pub pad_of : (first second third : List ℕ) → Parsed PadValue
pad_of first second third =
    cond (is_empty third) (and_then (coordinate first) (λ x. and_then (coordinate second) (λ y. number (record { x = x; y = y })))) malformed

abbrev pub pad_in : Option Three → Parsed (Option PadValue)
pad_in None = number None
pad_in (Some t) = and_then (pad_of t.first t.second t.third) (λ p. number (Some p))

-- A line of a text with pads alone: none, where it has no field; else the pad of its two coordinates.
unfoldable pub pad_line : List ℕ → Parsed (Option PadValue)
pad_line line = and_then (fields_of line) pad_in

-- ---- a line with picks
-- a field is a word
abbrev pub is_word : List ℕ → List ℕ → Bool
is_word field text = pointwise eqb field text

-- one pick
unfoldable pub pick_of : (second third : List ℕ) → Parsed ℕ
pick_of second third = cond (is_empty third) (word second) malformed

abbrev pub line_in : Option Three → Parsed Line
line_in None = number Blank
line_in (Some t) =
    cond (is_word t.first (ascii "picks")) (and_then (word t.second) (λ seed. and_then (word t.third) (λ count. number (Picks seed count))))
    (cond (is_word t.first (ascii "pick")) (and_then (pick_of t.second t.third) (λ n. number (Pick n)))
    (and_then (pad_of t.first t.second t.third) (λ p. number (Pad p))))

-- A line of a text with picks: nothing; behind its word all picks, or one; or a pad.
unfoldable pub line_of : List ℕ → Parsed Line
line_of line = and_then (fields_of line) line_in

-- ---- the code's answer in these words
abbrev pub shown : Result (Option Fields) LineError → Parsed (Option Three)
shown (Ok None) = number None
shown (Ok (Some f)) = number (Some (record { first = f.first.now; second = f.second.now; third = f.third.now }))
shown (Err error.Malformed) = malformed
shown (Err error.OutOfRange) = out_of_range
