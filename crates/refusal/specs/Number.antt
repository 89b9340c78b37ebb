-- The numbers of the refusals.
use Rattle.std.specs.Prelude.{ℕ, Result, Ok, Err}
use Rattle.refusal.specs.declared.Refusal.{Refusal}
use Rattle.refusal.specs.declared.Refusal.TheVariants.{ManyPoints, ShortBuffer, OutOfRange, NoRing, EqualPoints, FewPoints, OneLine, PicksUsedUp, JobLength, TotalLength, ManyJobPoints, AreaOutside, SharedBytes, NotCounterClockwise, EdgesMeet, ManyPicks, ImageFile, WrongRecords}

abbrev pub number_of : Refusal → ℕ
number_of ManyPoints = 1
number_of ShortBuffer = 2
number_of OutOfRange = 3
number_of NoRing = 4
number_of EqualPoints = 5
number_of FewPoints = 6
number_of OneLine = 7
number_of (PicksUsedUp moves left) = 8
number_of JobLength = 9
number_of TotalLength = 10
number_of ManyJobPoints = 11
number_of AreaOutside = 12
number_of SharedBytes = 13
number_of NotCounterClockwise = 14
number_of (EdgesMeet first second) = 15
number_of ManyPicks = 19
number_of ImageFile = 20
number_of WrongRecords = 21

-- the number with which a check refuses, or 0 where it passes
abbrev pub refused : {A : Type 0} → Result A Refusal → ℕ
refused (Ok a) = 0
refused (Err r) = number_of r
