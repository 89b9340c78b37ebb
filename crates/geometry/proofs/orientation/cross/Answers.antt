-- `cross` meets its contract: products of gaps are at most 4·10¹⁸, and their difference fits 64 bits.
use native.Mathlib.Omega.{arith}
use lib.IntN.{◌-ℤ◌, ◌*ℤ◌}
use mir.Syntax.{w64}
use mir.Val.{SFits}
use mir.ValLaws.{to_z-of_z}
use Rattle.geometry.proofs.Reading.{mul_fits, fits64, cross_bound}
use Rattle.geometry.proofs.orientation.cross.Goals as goal

pub overflow_mul-result : goal.overflow_mul-result
overflow_mul-result c =
    let f : SFits w64 c.args.ux = c.ranges.ux in
    let g : SFits w64 c.args.vy = c.ranges.vy in
    simp to_z-of_z (fits64 (omega (arith, mul_fits c.args.ux c.args.vy c.requires.0 c.requires.3)))

pub overflow_mul-result-2 : goal.overflow_mul-result-2
overflow_mul-result-2 c =
    let f : SFits w64 c.args.uy = c.ranges.uy in
    let g : SFits w64 c.args.vx = c.ranges.vx in
    simp to_z-of_z (fits64 (omega (arith, mul_fits c.args.uy c.args.vx c.requires.1 c.requires.2)))

pub overflow_sub-result : goal.overflow_sub-result
overflow_sub-result c =
    let a = c.args in
    let f1 : SFits w64 a.ux = c.ranges.ux in
    let f2 : SFits w64 a.uy = c.ranges.uy in
    let f3 : SFits w64 a.vx = c.ranges.vx in
    let f4 : SFits w64 a.vy = c.ranges.vy in
    let p = mul_fits a.ux a.vy c.requires.0 c.requires.3 in
    let q = mul_fits a.uy a.vx c.requires.1 c.requires.2 in
    let fp : SFits w64 (a.ux *ℤ a.vy) = fits64 (omega arith) in
    let fq : SFits w64 (a.uy *ℤ a.vx) = fits64 (omega arith) in
    simp to_z-of_z (fits64 (cross_bound a.ux a.vy a.uy a.vx c.requires.0 c.requires.3 c.requires.1 c.requires.2))

pub returns : goal.returns
returns c =
    let a = c.args in
    let f1 : SFits w64 a.ux = c.ranges.ux in
    let f2 : SFits w64 a.uy = c.ranges.uy in
    let f3 : SFits w64 a.vx = c.ranges.vx in
    let f4 : SFits w64 a.vy = c.ranges.vy in
    let p = mul_fits a.ux a.vy c.requires.0 c.requires.3 in
    let q = mul_fits a.uy a.vx c.requires.1 c.requires.2 in
    let fp : SFits w64 (a.ux *ℤ a.vy) = fits64 (omega arith) in
    let fq : SFits w64 (a.uy *ℤ a.vx) = fits64 (omega arith) in
    let fr : SFits w64 (a.ux *ℤ a.vy -ℤ a.uy *ℤ a.vx) = fits64 (cross_bound a.ux a.vy a.uy a.vx c.requires.0 c.requires.3 c.requires.1 c.requires.2) in
    simp to_z-of_z
