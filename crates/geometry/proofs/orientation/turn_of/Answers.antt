-- `turn_of` meets its contract: four gaps of points within the limits are at most 2·10⁹, and their cross product is the turn.
use mathlib.Core.Path.{◌≡◌, ◌∙◌}
use lib.IntN.{ℤ, ◌-ℤ◌, ◌*ℤ◌}
use mir.Syntax.{w32, w64}
use mir.Val.{SFits, to_z, of_z}
use Rattle.geometry.proofs.Reading.{read_64, read_gap, gap_x, gap_y}
use borrow.Author.Rules.{rules}
use Rattle.geometry.proofs.orientation.turn_of.Goals as goal

abbrev back : ℤ → ℤ
back z = to_z w64 (of_z w64 z)

-- the four gaps, as the machine reads them
module _ (c : goal.After-gap-vy) where
  ux : back c.gap-ux.result ≡ c.args.b.point.x -ℤ c.args.a.point.x
  ux =
      let h : SFits w32 c.args.b.point.x = search rules in
      let k : SFits w32 c.args.a.point.x = search rules in
      read_gap c.gap-ux.type_inv h k c.gap-ux.ensures

  uy : back c.gap-uy.result ≡ c.args.b.point.y -ℤ c.args.a.point.y
  uy =
      let h : SFits w32 c.args.b.point.y = search rules in
      let k : SFits w32 c.args.a.point.y = search rules in
      read_gap c.gap-uy.type_inv h k c.gap-uy.ensures

  vx : back c.gap-vx.result ≡ c.args.c.point.x -ℤ c.args.a.point.x
  vx =
      let h : SFits w32 c.args.c.point.x = search rules in
      let k : SFits w32 c.args.a.point.x = search rules in
      read_gap c.gap-vx.type_inv h k c.gap-vx.ensures

  vy : back c.gap-vy.result ≡ c.args.c.point.y -ℤ c.args.a.point.y
  vy =
      let h : SFits w32 c.args.c.point.y = search rules in
      let k : SFits w32 c.args.a.point.y = search rules in
      read_gap c.gap-vy.type_inv h k c.gap-vy.ensures

pub cross-requires : goal.cross-requires
cross-requires c = let s = c.args in (gap_x s.b.near s.a.near _ (ux c), gap_y s.b.near s.a.near _ (uy c), gap_x s.c.near s.a.near _ (vx c), gap_y s.c.near s.a.near _ (vy c))

pub returns : goal.returns
returns c = read_64 c.cross.type_inv (c.cross.ensures ∙ (λ i. ux c.before i *ℤ vy c.before i -ℤ uy c.before i *ℤ vx c.before i))
