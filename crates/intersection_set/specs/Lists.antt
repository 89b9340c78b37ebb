-- What a store says of each edge's list and of each slot: heads, links and places, by computation.
use Rattle.std.specs.Prelude.{cond, List, [], ◌∷◌, ◌++◌, map, ℕ, suc, ◌+◌, ◌-◌, ◌*◌, ◌/◌, ◌%◌, eqb, ltb}
use Rattle.algebra.specs.Counting.{count_p}
use Rattle.algebra.specs.Ranges.{up_from}
use Rattle.index_edge.specs.Edge.{Edge}
use Rattle.intersection_set.specs.Store.{Rec, Store, names}

-- no slot
abbrev pub none : ℕ
none = 65535

-- ---- an edge's list: the records that name it, sorted by falling age
abbrev pub insert : Rec → List Rec → List Rec
insert r [] = r ∷ []
insert r (y ∷ l) = cond (ltb y.age r.age) (r ∷ y ∷ l) (y ∷ insert r l)

abbrev pub list_of : Edge → List Rec → List Rec
list_of e [] = []
list_of e (r ∷ d) = cond (names e r) (insert r (list_of e d)) (list_of e d)

abbrev pub slot_of : Rec → ℕ
slot_of r = r.slot

-- its slots, the newest first
abbrev pub slots_of : Edge → Store → List ℕ
slots_of e s = map slot_of (list_of e s.dense)

-- ---- head, next and previous, read off a list of slots that ends in m
abbrev pub first_or : ℕ → List ℕ → ℕ
first_or m [] = m
first_or m (x ∷ l) = x

abbrev pub after : ℕ → ℕ → List ℕ → ℕ
after m x [] = m
after m x (y ∷ l) = cond (eqb x y) (first_or m l) (after m x l)

-- of an x in the list; p stands in front of it
abbrev pub before : ℕ → ℕ → List ℕ → ℕ
before p x [] = p
before p x (y ∷ l) = cond (eqb x y) p (before y x l)

abbrev pub head_of : Edge → Store → ℕ
head_of e s = first_or none (slots_of e s)

abbrev pub next_of : Edge → ℕ → Store → ℕ
next_of e x s = after none x (slots_of e s)

abbrev pub prev_of : Edge → ℕ → Store → ℕ
prev_of e x s = before none x (slots_of e s)

-- ---- the reverse of the dense order: the dense place of a slot, counted from i
abbrev pub place_from : ℕ → ℕ → List Rec → ℕ
place_from i x [] = none
place_from i x (r ∷ d) = cond (eqb x r.slot) i (place_from (suc i) x d)

abbrev pub reverse_of : ℕ → Store → ℕ
reverse_of x s = place_from 0 x s.dense

-- ---- the free slots as a stack: the one freed last at the end
abbrev pub stack_of : List ℕ → List ℕ
stack_of [] = []
stack_of (a ∷ l) = stack_of l ++ (a ∷ [])

-- ---- the heads in full
-- An edge's head stands at max + n×min.
abbrev pub head_place : ℕ → Edge → ℕ
head_place n e = e.hi + n * e.lo

-- the pair of numbers whose place is i: an edge where the first is the smaller
abbrev pub pair_at : ℕ → ℕ → Edge
pair_at n i = record { lo = i / n; hi = i % n }

-- n×(n-1) places; those of no edge have no slot
abbrev pub heads_of : ℕ → Store → List ℕ
heads_of n s = map (λ i. cond (ltb (i / n) (i % n)) (head_of (pair_at n i) s) none) (up_from 0 (n * (n - 1)))

-- ---- how many records name each edge
abbrev pub tangle : Edge → Store → ℕ
tangle e s = count_p (names e) s.dense

-- in full, placed as the heads are; 0 at the places of no edge
abbrev pub tangles_of : ℕ → Store → List ℕ
tangles_of n s = map (λ i. cond (ltb (i / n) (i % n)) (tangle (pair_at n i) s) 0) (up_from 0 (n * (n - 1)))
