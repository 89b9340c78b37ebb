use mathlib.Core.Path.{◌≡◌}
use Prim.Native.Nat.{◌+◌, ◌*◌, ◌/◌, ◌<◌}
use native.Mathlib.Omega.{arith}
use Rattle.algebra.specs.Cases.{both, le_cases}
use Rattle.algebra.specs.Size.{mul_bound}
use Rattle.integer_root.proofs.above.Goals as goal

pub loop-rest-init : goal.loop-rest-init
loop-rest-init c = (omega arith, omega arith, omega arith, omega arith)

-- x is below 2³²
small : (c : goal.In-loop-rest) → c.loop-rest.x < 4294967296
small c =
    let l = c.loop-rest in
    both (le_cases 4294967296 l.x)
    (λ h. absurd (let m = mul_bound 4294967296 4294967296 l.x l.x h.0 h.0 in
    let k = mul_bound 1 (l.x * l.x) l.rest (l.x * l.x) (omega arith) (omega arith) in
    omega (arith, m, k, l.invariant.2, c.ranges.v)))
    (λ h. h.0)

pub overflow_mul-x : goal.overflow_mul-x
overflow_mul-x c = omega (arith, small c)

pub loop-rest-preserved : goal.loop-rest-preserved
loop-rest-preserved c =
    let l = c.loop-rest in
    let s = l.x * l.x in (
      omega arith,
      omega (arith, small c),
      omega (arith, l.invariant.2, mul_bound (4 * (l.rest / 4)) s l.rest s (omega arith) (omega arith)),
      omega (arith, l.invariant.3, mul_bound (l.rest + 1) s (4 * (l.rest / 4) + 4) s (omega arith) (omega arith)),
    )

pub returns : goal.returns
returns c =
    let l = c.loop-rest in
    let none : l.rest ≡ 0 = omega arith in
    let over : c.args.v < (0 + 1) * (l.x * l.x) = rw none at l.invariant.3 in
    (l.invariant.0, omega (arith, over), l.invariant.1)
