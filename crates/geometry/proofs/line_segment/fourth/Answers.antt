-- `fourth` meets its contract: the difference and the sum fit, as its caller shows.
use lib.IntN.{◌-ℤ◌}
use mir.Syntax.{w64}
use mir.Val.{SFits}
use mir.ValLaws.{to_z-of_z}
use Rattle.geometry.proofs.Reading.{fits64}
use Rattle.geometry.proofs.line_segment.fourth.Goals as goal

pub overflow_sub-result : goal.overflow_sub-result
overflow_sub-result c =
    let f : SFits w64 c.args.p = c.ranges.p in
    let g : SFits w64 c.args.q = c.ranges.q in
    simp to_z-of_z (fits64 c.requires.0)

pub overflow_add-result : goal.overflow_add-result
overflow_add-result c =
    let f : SFits w64 c.args.p = c.ranges.p in
    let g : SFits w64 c.args.q = c.ranges.q in
    let h : SFits w64 c.args.r = c.ranges.r in
    let k : SFits w64 (c.args.p -ℤ c.args.q) = fits64 c.requires.0 in
    simp to_z-of_z (fits64 c.requires.1)
