-- `squared_euclidean_distance` meets its contract: both gaps are at most 2·10⁹, and their squares make the sum.
use mathlib.Core.Path.{◌≡◌, ◌∙◌}
use Prim.Native.Nat.{◌+◌, ◌*◌}
use lib.IntN.{◌-ℤ◌}
use mir.Syntax.{w32, w64}
use mir.Val.{SFits, to_z, of_z}
use Rattle.algebra.specs.Size.{abs}
use Rattle.geometry.specs.Plane.{squared_distance}
use Rattle.geometry.proofs.Reading.{read_gap, gap_x, gap_y}
use borrow.Author.Rules.{rules}
use Rattle.geometry.proofs.distance.squared_euclidean_distance.Goals as goal

-- the two gaps, as the machine reads them
module _ (c : goal.After-gap-2) where
  dx : to_z w64 (of_z w64 c.gap.result) ≡ c.args.a.point.x -ℤ c.args.b.point.x
  dx =
      let h : SFits w32 c.args.a.point.x = search rules in
      let k : SFits w32 c.args.b.point.x = search rules in
      read_gap c.gap.type_inv h k c.gap.ensures

  dy : to_z w64 (of_z w64 c.gap-2.result) ≡ c.args.a.point.y -ℤ c.args.b.point.y
  dy =
      let h : SFits w32 c.args.a.point.y = search rules in
      let k : SFits w32 c.args.b.point.y = search rules in
      read_gap c.gap-2.type_inv h k c.gap-2.ensures

pub squares-requires : goal.squares-requires
squares-requires c = let s = c.args in (gap_x s.a.near s.b.near _ (dx c), gap_y s.a.near s.b.near _ (dy c))

pub returns : goal.returns
unfolding squared_distance
returns c = c.squares.ensures ∙ (λ i. abs (dx c.before i) * abs (dx c.before i) + abs (dy c.before i) * abs (dy c.before i))
