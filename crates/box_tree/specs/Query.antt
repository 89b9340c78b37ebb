-- What a query of the tree finds.
use Rattle.std.specs.Prelude.{List, filter, ℕ}
use Rattle.algebra.specs.Ranges.{up_from}
use Rattle.box_tree.specs.Boxes.{Bounds, share}

-- of the k positions from i on, over the boxes f, those whose box shares a place with b, in ascending order
abbrev pub near : Bounds → (ℕ → Bounds) → ℕ → ℕ → List ℕ
near b f i k = filter (λ j. share b (f j)) (up_from i k)
