-- A state that a run can go on from: demand 3 holds of every run from it, and every state of a run is one.
use mathlib.Core.Path.{◌≡◌, ◌∙◌}
use mathlib.Core.Bool.{Bool, cond}
use mathlib.Core.List.{List, []}
use mathlib.Core.Logic.{◌⊎◌, inl, inr}
use Prim.Native.Nat.{ℕ, ◌*◌}
use native.Mathlib.Omega.{arith}
use lib.Dec.{ltb}
use Rattle.algebra.specs.Cases.{both, true_or_false, never}
use Rattle.geometry.specs.Plane.{Point}
use Rattle.index_edge.specs.Edge.{Edge}
use Rattle.polygon.specs.Ring.{IsRing}
use Rattle.intersection_set.specs.Store.{Store, counted}
use Rattle.machine.specs.Board.{Board}
use Rattle.machine.specs.Machine.{State, Traced, nothing_twice, begin, run_word, place}
use Rattle.machine.specs.Demand3.{Picks}
use Rattle.machine.specs.Onward.{from, twice_of, Names, Ready, Onward}
use Rattle.machine.proofs.GoodPlan.{once_edges}
use Rattle.machine.proofs.Scans.{found, fresh_counted}
use Rattle.machine.proofs.Exactly.{Exact}
use Rattle.machine.proofs.Room.{Whole, Roomy, begin_whole, run_whole}
use Rattle.machine.proofs.Moments.{Moment, roomy_onward}
use Rattle.machine.proofs.Demand3Holds.{found_pair, pair_found, onward}
use Rattle.machine.proofs.Accepted.{place_picks}

module _ (n : ℕ) (pt : ℕ → Point) (board : Board n pt) where
  -- a record that names each pair that meets once or twice is exact
  names_exact : (s : State) → IsRing n s.ring → Names n pt s.ring s.store.dense → Exact n pt (twice_of s) s []
  names_exact s ring na a b =
      rw (fresh_counted n pt s.ring (once_edges n s.ring ring board.three) a b)
      (both (true_or_false (found n pt s.ring a b))
      (λ t. rw t (times (counted a b s.store.dense) (na.each a b (found_pair n pt board s.ring ring a b t))))
      (λ t. rw t (na.only a b (λ p. never (found n pt s.ring a b) (pair_found n pt board s.ring ring a b p) t) ∙ omega arith)))
    where
      times : (x : ℕ) → (x ≡ 1) ⊎ (x ≡ 2) → x ≡ 1 * cond (ltb 1 x) 2 1
      times x (inl e) = rw e
      times x (inr e) = rw e

  pub ready_whole : (s : State) → Ready n pt s → Whole n pt (twice_of s) (from s)
  ready_whole s ready = record { inv = record { ring_ok = ready.ring; exact = names_exact s ready.ring ready.names }; numbered = ready.numbered; room = ready.room }

  pub whole_ready : (was : Edge → Edge → Bool) (t : Traced) → Whole n pt was t → Ready n pt t.now
  whole_ready was t wh = record {
    ring = wh.inv.ring_ok;
    names = (onward n pt board was place place_picks t wh.inv [] 0).names;
    numbered = wh.numbered;
    room = wh.room;
  }

  -- the start is ready
  pub begin_ready : (r : List ℕ) → IsRing n r → Ready n pt (begin n pt r).now
  begin_ready r ring = whole_ready nothing_twice (begin n pt r) (begin_whole n pt board r ring)

  module _ (s : State) (ready : Ready n pt s) (w : ℕ → State → ℕ) (picks : Picks w) where
    -- and so is every state of a run from one
    pub run_ready : (cs : List ℕ) → Ready n pt (run_word n pt w cs (from s)).now
    run_ready cs = whole_ready (twice_of s) (run_word n pt w cs (from s)) (run_whole n pt board (twice_of s) w picks cs (from s) (ready_whole s ready))

    -- Demand 3 for every run from it, k the count that a delivered loop is answered with.
    pub ready_onward : (cs : List ℕ) (k : ℕ) → Onward n pt (twice_of s) w cs (from s) k
    ready_onward cs k = onward n pt board (twice_of s) w picks (from s) (ready_whole s ready).inv cs k

    -- at every moment, also in the middle of a move, at most n * (n - 1) records and slots
    pub ready_roomy : (u : Store) → Moment n pt w (from s) u → Roomy n pt u
    ready_roomy = roomy_onward n pt w (from s) board picks (twice_of s) (ready_whole s ready)
