-- A pool that is filled from the lines of an image: in the order of their ages, each into the slot that its place in the image gives it.
use Rattle.std.specs.Prelude.{◌≡◌, true, cond, List, [], ◌∷◌, map, ℕ, ◌-◌, ◌*◌, ◌≤◌, ◌<◌, eqb, ltb, length, get_or, take, drop}
use Rattle.algebra.specs.Counting.{one, count_p}
use Rattle.index_edge.specs.Edge.{lt_edge}
use Rattle.intersection_set.specs.Store.{Rec, Store}
use Rattle.intersection_set.specs.Lists.{slot_of}
use Rattle.intersection_set.specs.Within.{Proper}
use Rattle.resume.specs.Image.{Line, line, slotted}

-- a place that holds nothing reads as this
abbrev pub no_line : Line
no_line = line (record { lo = 0; hi = 0 }) (record { lo = 0; hi = 0 }) 0

-- the line at a place
abbrev pub line_at : List Line → ℕ → Line
line_at ls i = get_or ls i no_line

-- a line of n points: two edges, the smaller first
pub record SoundLine (n : ℕ) (l : Line) : Type 0 where
  pub first : Proper n l.e0
  pub second : Proper n l.e1
  pub ordered : lt_edge l.e0 l.e1 ≡ true

-- Lines that a pool of n points can be filled from: it has room for them, and their ages are 0 up to their count less one.
pub record Fills (n : ℕ) (ls : List Line) : Type 0 where
  pub small : n ≤ 256
  pub room : length ls ≤ n * (n - 1)
  pub ages : (a : ℕ) → count_p (λ l. eqb a l.age) ls ≤ one (ltb a (length ls))
  pub sound : (i : ℕ) → i < length ls → SoundLine n (line_at ls i)

-- ---- by rising age
abbrev pub insert_up : Rec → List Rec → List Rec
insert_up r [] = r ∷ []
insert_up r (y ∷ l) = cond (ltb r.age y.age) (r ∷ y ∷ l) (y ∷ insert_up r l)

abbrev pub rising : List Rec → List Rec
rising [] = []
rising (r ∷ d) = insert_up r (rising d)

-- the records that the lines become, and their slots
abbrev pub by_age : List Line → List Rec
by_age ls = rising (slotted 0 ls)

abbrev pub slots_by_age : List Line → List ℕ
slots_by_age ls = map slot_of (by_age ls)

-- the store after the i oldest are pushed: the slots of the others wait
abbrev pub filled : List Line → ℕ → Store
filled ls i = record { dense = take i (by_age ls); pushes = i; free = drop i (slots_by_age ls) }
