-- The ring: point numbers by position, the position index that inverts it, and the two ways in which a move changes it.
use Rattle.std.specs.Prelude.{◌≡◌, Bool, true, false, ◌&&◌, ◌||◌, cond, List, [], ◌∷◌, map, ◌⊎◌, ℕ, zero, suc, ◌+◌, ◌-◌, ◌≤◌, ◌<◌, eqb, leb, length, get_or, set}
use Rattle.std.proofs.Math.Option.{Option, none, some}
use Rattle.algebra.specs.Ranges.{up_from, some_below, least_from}

-- ---- positions of a ring of n points
-- one place on, wrapping
abbrev pub next : ℕ → ℕ → ℕ
next n i = cond (eqb (suc i) n) 0 (suc i)

-- one place back, wrapping
abbrev pub prev : ℕ → ℕ → ℕ
prev n i = cond (eqb i 0) (n - 1) (i - 1)

-- how many places on from p is i
abbrev pub dist : ℕ → ℕ → ℕ → ℕ
dist n p i = cond (leb p i) (i - p) (i + n - p)

-- k places back from q
abbrev pub back : ℕ → ℕ → ℕ → ℕ
back n q k = cond (leb k q) (q - k) (q + n - k)

-- k positions from i on
abbrev pub stretch : ℕ → ℕ → ℕ → List ℕ
stretch n i zero = []
stretch n i (suc k) = i ∷ stretch n (next n i) k

-- ---- the ring
-- the point number at a position
abbrev pub at : List ℕ → ℕ → ℕ
at r i = get_or r i 0

-- A ring of n points names each of the numbers below n once.
pub record IsRing (n : ℕ) (r : List ℕ) : Type 0 where
  pub len : length r ≡ n
  pub below : (i : ℕ) → i < n → at r i < n
  pub apart : (i j : ℕ) → i < n → j < n → at r i ≡ at r j → i ≡ j

-- ---- where a list is no ring
-- The entry at position i is at fault: it is n or more, or repeats an earlier one.
abbrev pub AtFault : ℕ → List ℕ → ℕ → Type 0
AtFault n r i = (n ≤ at r i) ⊎ ((j : ℕ) × (j < i) × (at r j ≡ at r i))

-- the same as a test
abbrev pub at_fault : ℕ → List ℕ → ℕ → Bool
at_fault n r i = leb n (at r i) || some_below i (λ j. eqb (at r j) (at r i))

-- The first of n entries at fault, by its position: it is at fault, and none before it is. None: no entry is.
abbrev pub FirstFault : ℕ → List ℕ → Option ℕ → Type 0
FirstFault n r (some i) = (i < n) × AtFault n r i × ((j : ℕ) → j < i → ¬ AtFault n r j)
FirstFault n r none = (i : ℕ) → i < n → ¬ AtFault n r i

-- the same by computation
abbrev pub first_fault : ℕ → List ℕ → Option ℕ
first_fault n r = least_from 0 n (at_fault n r)

-- no position is told
abbrev pub is_none : Option ℕ → Bool
is_none none = true
is_none (some i) = false

-- IsRing as a test (check 4): of n entries none is at fault
abbrev pub each_once : ℕ → List ℕ → Bool
each_once n r = eqb (length r) n && is_none (first_fault n r)

-- ---- the index
-- The position index gives each number's place.
pub record IsIndex (n : ℕ) (r x : List ℕ) : Type 0 where
  pub size : length x ≡ n
  pub finds : (i : ℕ) → i < n → at x (at r i) ≡ i

-- Ring and index invert each other.
pub record Indexed (n : ℕ) (r x : List ℕ) : Type 0 where
  pub ring : IsRing n r
  pub index : IsIndex n r x

-- The same, but for the points at the positions from p on and before e: of those the index may say anything.
pub record IndexedBut (n : ℕ) (r x : List ℕ) (p e : ℕ) : Type 0 where
  pub ring : IsRing n r
  pub size : length x ≡ n
  pub finds : (i : ℕ) → i < n → (i < p) ⊎ (e ≤ i) → at x (at r i) ≡ i

-- the position of a number: i, counted on, where the list's first is at i
abbrev pub place_of : ℕ → List ℕ → ℕ → ℕ
place_of v [] i = i
place_of v (a ∷ l) i = cond (eqb a v) i (place_of v l (suc i))

-- The index of a ring, by computation.
abbrev pub index_of : ℕ → List ℕ → List ℕ
index_of n r = map (λ v. place_of v r 0) (up_from 0 n)

-- ---- changes
-- the points at p and q change places
abbrev pub swap : List ℕ → ℕ → ℕ → List ℕ
swap r p q = set (set r p (at r q)) q (at r p)

-- a change as a map on positions: the ring that has at i what r has at f i
abbrev pub moved : ℕ → (ℕ → ℕ) → List ℕ → List ℕ
moved n f r = map (λ i. at r (f i)) (up_from 0 n)

-- the places from p on to q change ends, wrapping if need be
abbrev pub flip : ℕ → ℕ → ℕ → ℕ → ℕ
flip n p q i = cond (leb (dist n p i) (dist n p q)) (back n q (dist n p i)) i

-- A stretch from p on to q reversed.
abbrev pub reversed : ℕ → List ℕ → ℕ → ℕ → List ℕ
reversed n r p q = moved n (flip n p q) r

-- the place at k comes right behind e, and those between move on by one
abbrev pub slide : ℕ → ℕ → ℕ → ℕ → ℕ
slide n e k i = cond (eqb (dist n e i) 0) i (cond (eqb (dist n e i) 1) k (cond (leb (dist n e i) (dist n e k)) (prev n i) i))

-- A point joined behind a place: the point at k comes to stand right behind e, and those between move on by one.
abbrev pub joined : ℕ → List ℕ → ℕ → ℕ → List ℕ
joined n r e k = moved n (slide n e k) r

-- The whole loop reversed: from position 0 to the last.
abbrev pub turned_round : ℕ → List ℕ → List ℕ
turned_round n r = reversed n r 0 (n - 1)
