-- `least_turn` meets its contract: it asks how the ring turns at its least point.
use native.Mathlib.Omega.{arith}
use Prim.Native.Nat.{◌-◌, ◌<◌}
use Rattle.moves.specs.Walk.{ring_of, point_of}
use Rattle.moves.proofs.RingPositions.{at_id, at_size}
use Rattle.checks.proofs.Least.{least_lt}
use Rattle.checks.proofs.start.least_turn.Goals as goal

pub at-requires : goal.at-requires
at-requires c =
    let v = c.new-on.result in
    let n = v.points.n in
    let e = c.least_at.ensures in
    let below : n - 1 < n = omega (arith, v.on_ring.2) in
    record { size = at_size e; below = rw (at_id e) (least_lt n (point_of v) (ring_of v) (n - 1) below) }
