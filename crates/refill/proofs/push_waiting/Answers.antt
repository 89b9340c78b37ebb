-- `push_waiting` meets its contract: each turn pushes the next record by age, which is that of the slot freed last.
use Prim.Native.Nat.{◌<◌}
use native.Mathlib.Omega.{arith}
use lib.ListN.{length}
use Rattle.intersection_set.specs.Set.{pool_in}
use Rattle.intersection_set.proofs.Buffers.{same_then}
use Rattle.refill.proofs.Filling.{has_freed, slot_inside, next_allowed, next_held}
use Rattle.refill.proofs.push_waiting.Goals as goal

pub last_freed-slot-requires : goal.last_freed-slot-requires
last_freed-slot-requires g c =
    let (_, (fills, (count, _))) = c.requires in
    has_freed c.args.set.now.vertices g.lines fills c.loop.counter (omega (arith, count, c.loop-test.true)) (pool_in c.loop.set) c.loop.invariant.holds

pub read-requires : goal.read-requires
read-requires g c =
    let (_, (fills, (count, (_, (can, _))))) = c.requires in
    let n = c.args.set.now.vertices in
    let i : c.loop.counter < length g.lines = omega (arith, count, c.loop-test.true) in
    let inside = slot_inside n g.lines fills c.loop.counter i (pool_in c.loop.set) c.loop.invariant.holds c.last_freed-slot.ensures in
    can c.last_freed-slot.result.0 (omega (arith, count, inside))

pub push-requires : goal.push-requires
push-requires g c =
    let (_, (fills, (count, (_, (_, gives))))) = c.requires in
    let v = c.loop.invariant in
    let n = c.args.set.now.vertices in
    let p = pool_in c.loop.set in
    let top = c.last_freed-slot.ensures in
    let i : c.loop.counter < length g.lines = omega (arith, count, c.loop-test.true) in
    let inside : c.last_freed-slot.result.0 < c.args.count = omega (arith, count, slot_inside n g.lines fills c.loop.counter i p v.holds top) in
    rw v.same.vertices (next_allowed n g.lines fills c.loop.counter i p v.holds top (gives c.last_freed-slot.result.0 c.read.result inside c.read.ensures))

pub loop-preserved : goal.loop-preserved
loop-preserved g c =
    let (_, (fills, (count, (_, (_, gives))))) = c.requires in
    let v = c.loop.invariant in
    let n = c.args.set.now.vertices in
    let p = pool_in c.loop.set in
    let top = c.last_freed-slot.ensures in
    let i : c.loop.counter < length g.lines = omega (arith, count, c.loop-test.true) in
    let inside : c.last_freed-slot.result.0 < c.args.count = omega (arith, count, slot_inside n g.lines fills c.loop.counter i p v.holds top) in
    let read = gives c.last_freed-slot.result.0 c.read.result inside c.read.ensures in
    record {
      same = same_then v.same c.push.ensures.same;
      holds = next_held n g.lines fills c.loop.counter i p v.holds top read (rw v.same.vertices at c.push.ensures.holds);
    }
