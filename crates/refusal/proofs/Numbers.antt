-- A number of a refusal says that there is one.
use Prim.Native.Nat.{◌<◌}
use native.Mathlib.Omega.{arith}
use Rattle.refusal.specs.declared.Refusal.{Refusal}
use Rattle.refusal.specs.declared.Refusal.TheVariants.{ManyPoints}
use Rattle.refusal.specs.Number.{number_of}

pub some_number : (r : Refusal) → 0 < number_of r
some_number ManyPoints = omega arith
some_number r = omega arith
