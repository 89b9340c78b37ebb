-- A tree of boxes over ring positions, as the list of its boxes in buffer order: a node stands before its whole first half, and that before the second.
use Rattle.std.specs.Prelude.{cond, List, [], ◌∷◌, ◌++◌, flat_map, ℕ, zero, suc, ◌+◌, ◌-◌, ◌*◌, ◌/◌, leb, ℤ, pos}
use Rattle.geometry.specs.Plane.{Point}
use Rattle.geometry.specs.Lent.{coord}
use Rattle.polygon.specs.Ring.{next, at}
use Rattle.box_tree.specs.Boxes.{Bounds, span, unite}

-- the box of the ring's edge from position i to the next
unfoldable pub box_at : ℕ → (ℕ → Point) → List ℕ → ℕ → Bounds
box_at n pt r i = span (pt (at r i)) (pt (at r (next n i)))

-- the box in front of a list of boxes
abbrev pub front : List Bounds → Bounds
front [] = record { left = pos 0; low = pos 0; right = pos 0; high = pos 0 }
front (b ∷ l) = b

-- a node of two halves: their union, and they
abbrev pub halves : List Bounds → List Bounds → List Bounds
halves s t = unite (front s) (front t) ∷ (s ++ t)

-- The tree of k positions from i on, where f says the box of each. The first half has the rounded-down share. d is a bound of the depth: from k on each
-- gives the same tree.
abbrev pub tree_to : ℕ → (ℕ → Bounds) → ℕ → ℕ → List Bounds
tree_to zero f i k = []
tree_to (suc d) f i k = let more = halves (tree_to d f i (k / 2)) (tree_to d f (i + k / 2) (k - k / 2)) in cond (leb k 1) (f i ∷ []) more

unfoldable pub tree_of : (ℕ → Bounds) → ℕ → ℕ → List Bounds
tree_of f i k = tree_to k f i k

-- ---- the buffer
-- a box is least x, least y, greatest x, greatest y
abbrev pub four : Bounds → List ℤ
four b = b.left ∷ b.low ∷ b.right ∷ b.high ∷ []

-- what a buffer holds: four numbers for each box
unfoldable pub buffer : (ℕ → Bounds) → ℕ → ℕ → List ℤ
buffer f i k = flat_map four (tree_of f i k)

-- the box in front of a buffer
abbrev pub read_box : List ℤ → Bounds
read_box l = record { left = coord l 0; low = coord l 1; right = coord l 2; high = coord l 3 }

-- The whole tree of a ring of n points: 2n-1 boxes, none for no points.
unfoldable pub ring_tree : ℕ → (ℕ → Point) → List ℕ → List ℤ
ring_tree n pt r = buffer (box_at n pt r) 0 n

-- how many numbers that takes
abbrev pub tree_size : ℕ → ℕ
tree_size n = 4 * (2 * n - 1)
