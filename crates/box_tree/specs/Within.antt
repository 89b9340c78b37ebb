-- What the functions ask of the part of a buffer that they are lent, and what they do to a list of positions.
use Rattle.std.specs.Prelude.{◌≡◌, List, ◌++◌, ℕ, ◌+◌, ◌*◌, ◌≤◌, ◌<◌, ℤ, length, take}
use Rattle.polygon.specs.Ring.{IsRing, dist}
use Rattle.box_tree.specs.Boxes.{Bounds}
use Rattle.box_tree.specs.Tree.{buffer}
use Rattle.box_tree.specs.Query.{near}

-- ---- making a tree
-- a part for the tree of k of a ring's positions, from i on
pub record Part (n : ℕ) (r : List ℕ) (i k : ℕ) (t : List ℤ) : Type 0 where
  pub ring : IsRing n r
  pub some : 1 ≤ k
  pub within : i + k ≤ n
  pub size : length t + 4 ≡ 8 * k

-- f and g are the same at the positions that are not from p on to q, wrapping if need be
abbrev pub SameBut : ℕ → ℕ → ℕ → (ℕ → Bounds) → (ℕ → Bounds) → Type 0
SameBut n p q f g = (j : ℕ) → j < n → dist n p q < dist n p j → f j ≡ g j

-- a part holds a tree whose boxes are f but for the positions from p on to q
pub record HeldBut (n p q : ℕ) (f : ℕ → Bounds) (i k : ℕ) (t : List ℤ) : Type 0 where
  pub first : p < n
  pub last : q < n
  pub held : (g : ℕ → Bounds) × (t ≡ buffer g i k) × SameBut n p q g f

-- ---- asking it
-- w was appended to the first c entries of a list l, which then has r of them in m
pub record Appended (l : List ℕ) (c : ℕ) (m : List ℕ) (r : ℕ) (w : List ℕ) : Type 0 where
  pub list : take r m ≡ take c l ++ w
  pub count : r ≡ c + length w
  pub size : length m ≡ length l

-- a part holds the tree of k positions from i on, over some boxes, and there is room for all of them behind the first c of a list
pub record Asked (i k : ℕ) (t : List ℤ) (l : List ℕ) (c : ℕ) : Type 0 where
  pub some : 1 ≤ k
  pub short : i + k ≤ 65536
  pub room : c + k ≤ length l
  pub held : (f : ℕ → Bounds) × (t ≡ buffer f i k)

-- the near ones were appended, whatever the boxes
abbrev pub Finds : Bounds → ℕ → ℕ → List ℤ → List ℕ → ℕ → List ℕ → ℕ → Type 0
Finds b i k t l c m r = (f : ℕ → Bounds) → t ≡ buffer f i k → Appended l c m r (near b f i k)
