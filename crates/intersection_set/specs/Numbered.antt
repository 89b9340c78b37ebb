-- The numbers of a store: its ages, and its slots.
use Rattle.std.specs.Prelude.{◌≡◌, List, ℕ, ◌+◌, ◌≤◌, eqb, ltb, length}
use Rattle.algebra.specs.Counting.{one, count_p}
use Rattle.intersection_set.specs.Store.{Rec, Store}

-- ages: at most one record of each, and none from the number of pushes on
abbrev pub Ages : List Rec → ℕ → Type 0
Ages d p = (a : ℕ) → count_p (λ r. eqb a r.age) d ≤ one (ltb a p)

-- Live slots and free slots together are exactly the slots grown so far, none in both.
abbrev pub SlotsOf : List Rec → List ℕ → Type 0
SlotsOf d f = (k : ℕ) → count_p (λ r. eqb k r.slot) d + count_p (eqb k) f ≡ one (ltb k (length d + length f))

pub record Numbered (s : Store) : Type 0 where
  pub ages : Ages s.dense s.pushes
  pub slots : SlotsOf s.dense s.free
