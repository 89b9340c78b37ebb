-- A store that is filled in another order than its dense one: free slots that wait for the pushes, and the dense order that is put right after them.
use Rattle.std.specs.Prelude.{◌≡◌, Bool, List, [], ℕ, eqb, ltb, length}
use Rattle.algebra.specs.Counting.{one, count_p}
use Rattle.intersection_set.specs.Store.{Rec, Store}

-- no record, and free slots: a push takes the first of them
abbrev pub waiting : List ℕ → Store
waiting l = record { dense = []; pushes = 0; free = l }

-- l names each slot below its length exactly once
abbrev pub EachSlot : List ℕ → Type 0
EachSlot l = (k : ℕ) → count_p (eqb k) l ≡ one (ltb k (length l))

-- d and e have the same records, in any two orders
abbrev pub Shuffled : List Rec → List Rec → Type 0
Shuffled d e = (q : Rec → Bool) → count_p q e ≡ count_p q d

-- a store in another dense order
abbrev pub reordered : List Rec → Store → Store
reordered d s = record { dense = d; pushes = s.pushes; free = s.free }
