-- `finish` meets its contract: a loop that is reversed gets its tree anew, in the same numbers.
use mathlib.Core.Path.{◌∙◌, ap, subst⁻¹}
use native.Mathlib.Omega.{arith}
use lib.ListN.{length}
use Rattle.geometry.specs.Spots.{spots}
use Rattle.polygon.specs.Ring.{IsRing}
use Rattle.polygon.proofs.WholeReversal.{back_ring}
use Rattle.box_tree.proofs.Growing.{tree_length}
use Rattle.resolve.proofs.resolve.finish.Goals as goal

pub build-requires : goal.build-requires
build-requires c =
    let s = c.args in
    let p = c.requires in
    let r = s.polygon.now.ring.now in
    let back = back_ring (length r) (omega (arith, p.0, p.1)) r s.polygon.now.indexed.ring in (
      rw p.0 (subst⁻¹ (IsRing (length r)) (c.as_slice-then-is_clockwise.ensures ∙ c.turn_round.ensures.ring) back),
      ap length p.2 ∙ tree_length s.points.n (spots s.points) r (omega (arith, p.1)),
    )
