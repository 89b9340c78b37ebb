-- How a slot, or none, stands in a buffer.
use Rattle.std.specs.Prelude.{Bool, true, false, ℕ, ◌<◌, Option, Some, None}
use Rattle.intersection_set.specs.Lists.{none}
use Rattle.intersection_set.specs.declared.intersection_set.Link.{Link}
use Rattle.intersection_set.specs.declared.intersection_set.Link.TheVariants.{Next, Prev}
use Rattle.intersection_set.specs.declared.sparse_index.SparseIndex.{SparseIndex}

abbrev pub stored : Option SparseIndex → ℕ
stored (Some s) = s.0
stored None = none

-- A slot's number is never the one that stands for none.
abbrev pub number_in : Option SparseIndex → ℕ
number_in (Some s) = s.0
number_in None = 0

abbrev pub Slot : Option SparseIndex → Type 0
Slot o = number_in o < 65535

-- whether a link is the previous one
abbrev pub goes_back : Link → Bool
goes_back Next = false
goes_back Prev = true
