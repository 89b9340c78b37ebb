-- Trees by computation: of no points, of a square, and of five points, whose first half has two positions.
use Rattle.std.specs.Prelude.{◌≡◌, refl, [], ◌∷◌, pos, negsuc}
use Rattle.geometry.specs.Lent.{points}
use Rattle.box_tree.specs.Boxes.{span, unite}
use Rattle.box_tree.specs.Tree.{box_at, tree_of, buffer, ring_tree}

no_points : ring_tree 0 (points [] []) [] ≡ []
unfolding ring_tree buffer tree_of
no_points = refl

-- the square in its own order: the root, its first half with two leaves, its second half with two
square : ring_tree 4 (points (pos 0 ∷ pos 10 ∷ pos 10 ∷ pos 0 ∷ []) (pos 0 ∷ pos 10 ∷ pos 0 ∷ pos 10 ∷ [])) (0 ∷ 1 ∷ 2 ∷ 3 ∷ [])
    ≡ pos 0 ∷ pos 0 ∷ pos 10 ∷ pos 10
    ∷ pos 0 ∷ pos 0 ∷ pos 10 ∷ pos 10
    ∷ pos 0 ∷ pos 0 ∷ pos 10 ∷ pos 10
    ∷ pos 10 ∷ pos 0 ∷ pos 10 ∷ pos 10
    ∷ pos 0 ∷ pos 0 ∷ pos 10 ∷ pos 10
    ∷ pos 0 ∷ pos 0 ∷ pos 10 ∷ pos 10
    ∷ pos 0 ∷ pos 0 ∷ pos 0 ∷ pos 10
    ∷ []
unfolding ring_tree buffer tree_of box_at span unite
square = refl

-- five points: the first half has the edges at 0 and 1, the second those at 2, 3 and 4, of which 2 is a half by itself
five_points : ring_tree 5 (points (pos 0 ∷ pos 4 ∷ pos 0 ∷ pos 4 ∷ pos 2 ∷ []) (pos 0 ∷ pos 4 ∷ pos 4 ∷ pos 0 ∷ negsuc 5 ∷ [])) (0 ∷ 1 ∷ 2 ∷ 3 ∷ 4 ∷ [])
    ≡ pos 0 ∷ negsuc 5 ∷ pos 4 ∷ pos 4
    ∷ pos 0 ∷ pos 0 ∷ pos 4 ∷ pos 4
    ∷ pos 0 ∷ pos 0 ∷ pos 4 ∷ pos 4
    ∷ pos 0 ∷ pos 4 ∷ pos 4 ∷ pos 4
    ∷ pos 0 ∷ negsuc 5 ∷ pos 4 ∷ pos 4
    ∷ pos 0 ∷ pos 0 ∷ pos 4 ∷ pos 4
    ∷ pos 0 ∷ negsuc 5 ∷ pos 4 ∷ pos 0
    ∷ pos 2 ∷ negsuc 5 ∷ pos 4 ∷ pos 0
    ∷ pos 0 ∷ negsuc 5 ∷ pos 2 ∷ pos 0
    ∷ []
unfolding ring_tree buffer tree_of box_at span unite
five_points = refl
