-- `squares` meets its contract: squares of gaps are at most 4·10¹⁸, and their sum fits 64 bits and is not negative.
use mathlib.Core.Path.{◌≡◌, ap}
use Prim.Native.Nat.{◌+◌, ◌*◌}
use native.Mathlib.Omega.{arith}
use lib.IntN.{ℤ, pos, nat_abs, ◌+ℤ◌, ◌*ℤ◌}
use mir.Syntax.{w64}
use mir.Val.{SFits, to_z, of_z}
use mir.ValLaws.{to_z-of_z}
use Rattle.algebra.specs.Size.{abs}
use Rattle.geometry.proofs.Reading.{mul_fits, fits64}
use Rattle.geometry.proofs.Distances.{squares_are, squares_small}
use Rattle.geometry.proofs.distance.squares.Goals as goal

abbrev sum : goal.Start → ℤ
sum c = c.args.dx *ℤ c.args.dx +ℤ c.args.dy *ℤ c.args.dy

-- the sum as a number
is_number : (c : goal.Start) → sum c ≡ pos (abs c.args.dx * abs c.args.dx + abs c.args.dy * abs c.args.dy)
is_number c = squares_are c.args.dx c.args.dy

sum_fits : (c : goal.Start) → SFits w64 (sum c)
sum_fits c = rw (is_number c) (fits64 (omega (arith, squares_small (abs c.args.dx) (abs c.args.dy) c.requires.0 c.requires.1)))

pub overflow_mul-result : goal.overflow_mul-result
overflow_mul-result c =
    let f : SFits w64 c.args.dx = c.ranges.dx in
    simp to_z-of_z (fits64 (omega (arith, mul_fits c.args.dx c.args.dx c.requires.0 c.requires.0)))

pub overflow_mul-result-2 : goal.overflow_mul-result-2
overflow_mul-result-2 c =
    let f : SFits w64 c.args.dy = c.ranges.dy in
    simp to_z-of_z (fits64 (omega (arith, mul_fits c.args.dy c.args.dy c.requires.1 c.requires.1)))

-- what the machine reads of the two squares
squares_read : (c : goal.Start) → to_z w64 (of_z w64 (to_z w64 (of_z w64 c.args.dx) *ℤ to_z w64 (of_z w64 c.args.dx))) +ℤ to_z w64 (of_z w64 (to_z w64 (of_z w64 c.args.dy) *ℤ to_z w64 (of_z w64 c.args.dy))) ≡ sum c
squares_read c =
    let a = c.args in
    let f : SFits w64 a.dx = c.ranges.dx in
    let g : SFits w64 a.dy = c.ranges.dy in
    let fp : SFits w64 (a.dx *ℤ a.dx) = fits64 (omega (arith, mul_fits a.dx a.dx c.requires.0 c.requires.0)) in
    let fq : SFits w64 (a.dy *ℤ a.dy) = fits64 (omega (arith, mul_fits a.dy a.dy c.requires.1 c.requires.1)) in
    simp to_z-of_z

pub overflow_add-result : goal.overflow_add-result
overflow_add-result c = rw (squares_read c) (sum_fits c)

pub overflow_cast-result : goal.overflow_cast-result
overflow_cast-result c = rw (squares_read c, to_z-of_z w64 (sum c) (sum_fits c), is_number c) (tt, record { fits = omega (arith, squares_small (abs c.args.dx) (abs c.args.dy) c.requires.0 c.requires.1) })

pub returns : goal.returns
returns c = rw (squares_read c, to_z-of_z w64 (sum c) (sum_fits c)) (ap nat_abs (is_number c))
