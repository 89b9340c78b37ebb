-- Every moment of every run: at most n * (n - 1) records live, and every slot is below n * (n - 1).
use mathlib.Core.Path.{◌≡◌}
use mathlib.Core.Bool.{Bool}
use mathlib.Core.List.{List, [], ◌∷◌, ◌++◌}
use Prim.Native.Nat.{ℕ, zero, suc, ◌-◌, ◌*◌, ◌≤◌, ◌<◌}
use native.Mathlib.Omega.{arith}
use lib.ListN.{length, get_or, take}
use Rattle.geometry.specs.Plane.{Point}
use Rattle.index_edge.specs.Edge.{Edge}
use Rattle.intersection_set.specs.Store.{Store, Found, nothing, at_place, no_rec, empty, newest_from, remove_found, remove_all_fuel, remove_all, removes}
use Rattle.machine.specs.Machine.{State, Traced, nothing_twice, scan_over, scans, pairs_with, pairs, plan_of, begin, run_word}
use Rattle.polygon.specs.Change.{Plan, cut, lay}
use Rattle.polygon.specs.Edges.{edges}
use Rattle.polygon.specs.Ring.{IsRing}
use Rattle.machine.specs.Board.{Board}
use Rattle.machine.specs.Demand3.{Picks}
use Rattle.intersection_set.proofs.Records.{Newest, newest_is}
use Rattle.machine.proofs.GoodPlan.{GoodPlan, once_edges, good_plan}
use Rattle.machine.proofs.Exactly.{recorded}
use Rattle.machine.proofs.Bounds.{few}
use Rattle.intersection_set.proofs.Slots.{Numbered, numbered_kept, fuel_kept, removes_kept, swap_remove_length, slot_below, free_below}
use Rattle.machine.proofs.Room.{Whole, Roomy, cleared, new_edges, begin_whole, run_whole, removes_grown, fuel_grown, mid_room}
use Rattle.machine.proofs.Middle.{mid_start}

-- ---- removals leave no more records
found_less : (e : Edge) (s : Store) → length (remove_found (newest_from e 0 s.dense) s).dense ≤ length s.dense
found_less e s = go (newest_from e 0 s.dense) (newest_is e 0 s.dense)
  where
    go : (f : Found) → Newest e 0 s.dense f → length (remove_found f s).dense ≤ length s.dense
    go nothing t = omega arith
    go (at_place k r) t = omega (arith, swap_remove_length s.dense k (omega arith))

fuel_less : (k : ℕ) (e : Edge) (s : Store) → length (remove_all_fuel k e s).dense ≤ length s.dense
fuel_less zero e s = omega arith
fuel_less (suc k) e s = omega (arith, fuel_less k e (remove_found (newest_from e 0 s.dense) s), found_less e s)

removes_less : (l : List Edge) (s : Store) → length (removes l s).dense ≤ length s.dense
removes_less [] s = omega arith
removes_less (e ∷ l) s = omega (arith, removes_less l (remove_all e s), fuel_less (length s.dense) e s)

module _ (n : ℕ) (pt : ℕ → Point) (w : ℕ → State → ℕ) where
  -- ---- a run from any state t
  module _ (t : Traced) where
    abbrev state_after : List ℕ → State
    state_after cs = (run_word n pt w cs t).now

    abbrev pick_plan : List ℕ → ℕ → Plan
    pick_plan cs c = plan_of n pt (state_after cs) (w c (state_after cs))

    -- the stores that the machine passes, by what it is doing
    pub data Moment : Store → Type 0 where
      -- after the picks cs
      between : (cs : List ℕ) → Moment (state_after cs).store
      -- the pick c after them: the edges of xs and k records of e are removed
      removing : (cs : List ℕ) (c : ℕ) → 0 < length (state_after cs).store.dense → (xs ys : List Edge) (e : Edge) (k : ℕ)
          → cut n (pick_plan cs c) (state_after cs).ring ≡ xs ++ e ∷ ys
          → Moment (remove_all_fuel k e (removes xs (state_after cs).store))
      -- the ring is turned, the new edges of xs are searched, and e against i edges of the ring
      searching : (cs : List ℕ) (c : ℕ) → 0 < length (state_after cs).store.dense → (xs ys : List Edge) (e : Edge) (i : ℕ)
          → lay n (pick_plan cs c) (state_after cs).ring ≡ xs ++ e ∷ ys
          → Moment (scan_over pt e (take i (new_edges n pt (pick_plan cs c) (state_after cs))) (scans pt (new_edges n pt (pick_plan cs c) (state_after cs)) xs (cleared n pt (pick_plan cs c) (state_after cs))))

    module _ (board : Board n pt) (picks : Picks w) (was : Edge → Edge → Bool) (begun : Whole n pt was t) where
      whole : (cs : List ℕ) → Whole n pt was (run_word n pt w cs t)
      whole cs = run_whole n pt board was w picks cs t begun

      pub roomy_onward : (u : Store) → Moment u → Roomy n pt u
      roomy_onward u (between cs) =
          let t' : Traced = run_word n pt w cs t in
          record { numbered = (whole cs).numbered; lives = few n pt was t'.now t'.log (whole cs).inv.exact; slots = (whole cs).room }
      roomy_onward u (removing cs c some xs ys e k h) =
          let t' : Traced = run_word n pt w cs t in
          record {
            numbered = fuel_kept Numbered numbered_kept k e (removes xs t'.now.store) (removes_kept Numbered numbered_kept xs t'.now.store (whole cs).numbered);
            lives = omega (arith, fuel_less k e (removes xs t'.now.store), removes_less xs t'.now.store, few n pt was t'.now t'.log (whole cs).inv.exact);
            slots = omega (arith, fuel_grown k e (removes xs t'.now.store), removes_grown xs t'.now.store, (whole cs).room);
          }
      roomy_onward u (searching cs c some xs ys e i h) =
          let t' : Traced = run_word n pt w cs t in
          let ok : GoodPlan n pt t'.now.ring (pick_plan cs c) = good_plan n pt board t'.now.ring (whole cs).inv.ring_ok _ _ (recorded n pt was t'.now t'.log (once_edges n t'.now.ring (whole cs).inv.ring_ok board.three) (whole cs).inv.exact (w c t'.now) (picks c t'.now some)) in
          mid_room n pt was (pick_plan cs c) t'.now t'.log ok (whole cs).inv.exact (whole cs).numbered (whole cs).room xs ys e i h

  -- ---- a run from the start, with the start itself
  module _ (r : List ℕ) where
    pub data MomentOf : Store → Type 0 where
      -- the start, at e after the edges of xs: i edges of the ring are searched
      starting : (xs ys : List Edge) (e : Edge) (i : ℕ) → edges n r ≡ xs ++ e ∷ ys
          → MomentOf (pairs_with pt e (take i (edges n r)) (pairs pt (edges n r) xs empty))
      running : (u : Store) → Moment (begin n pt r) u → MomentOf u

    module _ (board : Board n pt) (picks : Picks w) (ring : IsRing n r) where
      pub roomy : (u : Store) → MomentOf u → Roomy n pt u
      roomy u (starting xs ys e i h) = mid_start n pt r xs ys e i h
      roomy u (running v m) = roomy_onward (begin n pt r) board picks nothing_twice (begin_whole n pt board r ring) u m

      -- at most n * (n - 1) records live
      pub lives_few : (u : Store) → MomentOf u → length u.dense ≤ n * (n - 1)
      lives_few u m = (roomy u m).lives

      -- and every slot, live or free, is below n * (n - 1)
      pub live_slots : (u : Store) → MomentOf u → (k : ℕ) → k < length u.dense → (get_or u.dense k no_rec).slot < n * (n - 1)
      live_slots u m k h = omega (arith, slot_below u (roomy u m).numbered k h, (roomy u m).slots)

      pub free_slots : (u : Store) → MomentOf u → (k : ℕ) → k < length u.free → get_or u.free k 0 < n * (n - 1)
      free_slots u m k h = omega (arith, free_below u (roomy u m).numbered k h, (roomy u m).slots)
