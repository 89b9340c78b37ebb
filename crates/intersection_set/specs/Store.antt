-- The store of crossing records: the dense list, the count of pushes, and the free slots.
use Rattle.std.specs.Prelude.{Bool, ◌&&◌, ◌||◌, cond, List, [], ◌∷◌, ◌++◌, ℕ, zero, suc, ◌+◌, ◌-◌, ◌%◌, ltb, length, get_or, take, set}
use Rattle.index_edge.specs.Edge.{Edge, eq_edge, lt_edge}

-- A crossing record: two edges, the smaller first, its age (the pushes made before it), and the slot that holds it.
pub record Rec : Type 0 where
  pub e0 : Edge
  pub e1 : Edge
  pub age : ℕ
  pub slot : ℕ

pub record Store : Type 0 where
  pub dense : List Rec
  pub pushes : ℕ
  -- the slot freed last comes first
  pub free : List ℕ

abbrev pub empty : Store
empty = record { dense = []; pushes = 0; free = [] }

-- the slots grown so far: the live and the free ones
abbrev pub grown : Store → ℕ
grown s = length s.dense + length s.free

-- ---- push
abbrev pub rec_for : Edge → Edge → ℕ → ℕ → Rec
rec_for e f a k = record { e0 = cond (lt_edge e f) e f; e1 = cond (lt_edge e f) f e; age = a; slot = k }

-- the slot freed last, else the next new one
abbrev pub slot_for : List ℕ → ℕ → ℕ
slot_for [] k = k
slot_for (a ∷ l) k = a

abbrev pub rest : List ℕ → List ℕ
rest [] = []
rest (a ∷ l) = l

-- A push takes the slot freed last, else the next new one, and is appended to the dense order.
abbrev pub push : Edge → Edge → Store → Store
push e f s =
    record { dense = s.dense ++ (rec_for e f s.pushes (slot_for s.free (length s.dense)) ∷ []); pushes = suc s.pushes; free = rest s.free }

-- ---- remove
abbrev pub names : Edge → Rec → Bool
names e r = eq_edge e r.e0 || eq_edge e r.e1

-- a place that holds nothing reads as this
abbrev pub no_rec : Rec
no_rec = record { e0 = record { lo = 0; hi = 0 }; e1 = record { lo = 0; hi = 0 }; age = 0; slot = 0 }

-- the last dense entry is put in the dense place k
abbrev pub swap_remove : List Rec → ℕ → List Rec
swap_remove l k = take (length l - 1) (set l k (get_or l (length l - 1) no_rec))

-- a record with its dense place, or none
pub data Found : Type 0 where
  nothing : Found
  at_place : ℕ → Rec → Found

-- the newest record that names e, with its dense place counted from i: newest means greatest age
abbrev pub newer : ℕ → Rec → Found → Found
newer i r nothing = at_place i r
newer i r (at_place j q) = cond (ltb q.age r.age) (at_place i r) (at_place j q)

abbrev pub newest_from : Edge → ℕ → List Rec → Found
newest_from e i [] = nothing
newest_from e i (r ∷ l) = cond (names e r) (newer i r (newest_from e (suc i) l)) (newest_from e (suc i) l)

-- A removal puts the last dense entry in the dense place, and frees the slot.
abbrev pub remove_found : Found → Store → Store
remove_found nothing s = s
remove_found (at_place k r) s = record { dense = swap_remove s.dense k; pushes = s.pushes; free = r.slot ∷ s.free }

abbrev pub remove_all_fuel : ℕ → Edge → Store → Store
remove_all_fuel zero e s = s
remove_all_fuel (suc k) e s = remove_all_fuel k e (remove_found (newest_from e 0 s.dense) s)

-- Removing all of an edge goes newest first.
abbrev pub remove_all : Edge → Store → Store
remove_all e s = remove_all_fuel (length s.dense) e s

-- all of each edge, in order
abbrev pub removes : List Edge → Store → Store
removes [] s = s
removes (e ∷ l) s = removes l (remove_all e s)

-- ---- reading
-- how many records name the pair e, f
abbrev pub counted : Edge → Edge → List Rec → ℕ
counted e f [] = 0
counted e f (r ∷ l) = cond (eq_edge e r.e0 && eq_edge f r.e1) (suc (counted e f l)) (counted e f l)

-- A pick c takes dense entry c mod the list's length.
abbrev pub chosen : ℕ → Store → ℕ
chosen c s = c % length s.dense
