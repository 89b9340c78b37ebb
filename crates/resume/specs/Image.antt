-- A saved run: its ring, and its records in dense order with their ages renumbered from 0 by age; and the machine that is taken up from it.
use Rattle.std.specs.Prelude.{List, [], ◌∷◌, map, ℕ, suc, ltb, length}
use Rattle.algebra.specs.Counting.{count_p}
use Rattle.index_edge.specs.Edge.{Edge}
use Rattle.intersection_set.specs.Store.{Rec, Store}
use Rattle.machine.specs.Machine.{State, Traced}
use Rattle.machine.specs.Onward.{from}

-- a record of an image: its two edges, the smaller first, and its age
pub record Line : Type 0 where
  pub e0 : Edge
  pub e1 : Edge
  pub age : ℕ

abbrev pub line : Edge → Edge → ℕ → Line
line e0 e1 age = record { e0 = e0; e1 = e1; age = age }

pub record Image : Type 0 where
  pub ring : List ℕ
  pub lines : List Line

-- ---- saved
-- how many records of d are older than the age a
abbrev pub rank : List Rec → ℕ → ℕ
rank d a = count_p (λ r. ltb r.age a) d

-- a record of d with its age renumbered
abbrev pub line_of : List Rec → Rec → Line
line_of d r = line r.e0 r.e1 (rank d r.age)

abbrev pub renumbered : List Rec → List Line
renumbered d = map (line_of d) d

-- the image of a ring and a dense list
abbrev pub image_of : List ℕ → List Rec → Image
image_of r d = record { ring = r; lines = renumbered d }

abbrev pub saved : State → Image
saved s = image_of s.ring s.store.dense

-- ---- taken up
-- a record's dense place, counted from i, becomes its slot
abbrev pub slotted : ℕ → List Line → List Rec
slotted i [] = []
slotted i (l ∷ ls) = record { e0 = l.e0; e1 = l.e1; age = l.age; slot = i } ∷ slotted (suc i) ls

-- the next age is the record count, and no slot is free
abbrev pub taken_up : List Line → Store
taken_up ls = record { dense = slotted 0 ls; pushes = length ls; free = [] }

abbrev pub take_up : Image → State
take_up m = record { ring = m.ring; store = taken_up m.lines }

-- the run taken up: no move made yet
abbrev pub resumed : Image → Traced
resumed m = from (take_up m)

-- ---- width 8
-- records with no ages: their dense places, counted from i, are their ages
abbrev pub placed : ℕ → List Line → List Line
placed i [] = []
placed i (l ∷ ls) = line l.e0 l.e1 i ∷ placed (suc i) ls
