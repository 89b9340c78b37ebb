-- Boxes that share a place: the test tells it of boxes that are not empty, and a box that shares a place with a part shares one with the union.
use Rattle.std.specs.Prelude.{◌≡◌, true, ◌↔◌, ◌≤ℤ◌}
use Rattle.std.specs.Int.{int_max}
use Rattle.std.proofs.Common.{arith}
use Rattle.std.proofs.lemmas.Int.{ints, clamps}
use Rattle.box_tree.specs.Boxes.{Bounds, unite, Share, share}

-- Neither box lies wholly to one side of the other.
record Overlap (a b : Bounds) : Type 0 where
  right : a.left ≤ℤ b.right
  left : b.left ≤ℤ a.right
  high : a.low ≤ℤ b.high
  low : b.low ≤ℤ a.high

-- The test says that.
overlaps : (a b : Bounds) → share a b ≡ true → Overlap a b
unfolding share
overlaps a b t = grind (arith, ints)

overlap_shares : (a b : Bounds) → Overlap a b → share a b ≡ true
unfolding share
overlap_shares a b o = grind (arith, ints)

-- Two boxes that are not empty share a place exactly where the test says so: the greater of the lower ends is in both.
pub share_decides : (a b : Bounds) → a.left ≤ℤ a.right → a.low ≤ℤ a.high → b.left ≤ℤ b.right → b.low ≤ℤ b.high → (share a b ≡ true) ↔ Share a b
share_decides a b ax ay bx by = (
  λ t. let o = overlaps a b t in
      (record { x = int_max a.left b.left; y = int_max a.low b.low }, grind (arith, ints, clamps), grind (arith, ints, clamps)),
  λ (p, in_a, in_b). overlap_shares a b (grind (arith, ints)),
)

-- A box that shares a place with one of two shares one with their union.
pub share_first : (b u v : Bounds) → share b u ≡ true → share b (unite u v) ≡ true
unfolding unite
share_first b u v t = overlap_shares b (unite u v) (grind (arith, ints, clamps, overlaps b u t))

pub share_second : (b u v : Bounds) → share b v ≡ true → share b (unite u v) ≡ true
unfolding unite
share_second b u v t = overlap_shares b (unite u v) (grind (arith, ints, clamps, overlaps b v t))
