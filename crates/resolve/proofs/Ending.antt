-- The end of a run: the buffers hold the machine, then the ring is finished.
use mathlib.Core.Path.{◌≡◌, sym, ◌∙◌, ap, subst⁻¹}
use mathlib.Core.Bool.{Bool, cond}
use mathlib.Core.List.{List}
use Prim.Native.Nat.{ℕ, ◌<◌}
use native.Mathlib.Omega.{arith}
use lib.Dec.{eqb}
use lib.ListN.{length}
use Rattle.geometry.specs.Plane.{Point}
use Rattle.algebra.specs.Cases.{both, true_or_false}
use Rattle.polygon.specs.Ring.{IsRing, Indexed, index_of}
use Rattle.polygon.proofs.Index.{index_is}
use Rattle.intersection_set.specs.Pool.{Pool, Buffers, pool_of}
use Rattle.intersection_set.specs.declared.utils.Counts.{Counts}
use Rattle.intersection_set.proofs.Showing.{shows}
use Rattle.machine.specs.Machine.{State, place}
use Rattle.machine.specs.Answer.{finish}
use Rattle.machine.proofs.Corners.{ring_apart}
use Rattle.machine.proofs.Finish.{finish_ring}
use Rattle.machine.proofs.Accepted.{place_picks}
use Rattle.machine.proofs.Ready.{run_ready}
use Rattle.untangle.specs.Running.{state_after, Running}
use Rattle.resolve.specs.Ended.{Ended}

module _ {n : ℕ} {pt : ℕ → Point} {s : State} {cs ring index : List ℕ} {p : Pool} (run : Running n pt s cs ring index p) where
  pub ran_ring : IsRing n ring
  ran_ring = subst⁻¹ (IsRing n) run.same_ring (run_ready n pt run.board s run.ready place place_picks cs).ring

  pub ran_left : p.counts.live ≡ length (state_after n pt s cs).store.dense
  ran_left = run.holds.stored.live

pub ran_ended : {n : ℕ} {pt : ℕ → Point} {s : State} {cs ring index ring' index' : List ℕ} (b : Buffers) {k : Counts} → Running n pt s cs ring index (pool_of b k)
    → ring' ≡ cond (eqb k.live 0) (finish n pt ring) ring → index' ≡ index_of n ring' → Ended n pt s cs ring' index' b
ran_ended {n} {pt} {s} {cs} b {k} run er ei =
    record {
      same_ring = er ∙ (λ i. cond (eqb (ran_left run i) 0) (finish n pt (run.same_ring i)) (run.same_ring i));
      same_index = ei;
      shows = shows n b k (state_after n pt s cs).store run.holds;
    }

-- the index of the ring at the end
pub ran_index : {n : ℕ} {pt : ℕ → Point} {s : State} {cs ring index ring' index' : List ℕ} {p : Pool} (b : Bool) → Running n pt s cs ring index p → ring' ≡ cond b (finish n pt ring) ring → Indexed (length ring') ring' index' → index' ≡ index_of n ring'
ran_index {n} {pt} {ring = ring} b run er k =
    let r = ran_ring run in
    let some : 0 < n = omega (arith, run.board.three) in
    let last : IsRing n (cond b (finish n pt ring) ring) = both (true_or_false b) (λ t. rw t (finish_ring n pt ring some r (ring_apart n pt ring r run.board.distinct))) (λ t. rw t r) in
    index_is k (sym (ap length er ∙ last.len))
