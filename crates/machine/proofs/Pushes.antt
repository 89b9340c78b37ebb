-- How many pushes a run makes: at most n×(n-1)/2 at the start and 3×(n-1) for each pick, so that with 1,000,000 picks every age is a 32-bit number.
use mathlib.Core.Path.{◌≡◌, refl, ap, ◌∙◌}
use mathlib.Core.Bool.{Bool, true, false, not, ◌&&◌, cond}
use mathlib.Core.List.{List, [], ◌∷◌}
use Prim.Native.Nat.{ℕ, zero, suc, ◌+◌, ◌-◌, ◌*◌, ◌≤◌, ◌<◌}
use native.Mathlib.Omega.{arith}
use native.Mathlib.Nat.{mul-le-mul}
use lib.Dec.{eqb}
use lib.ListN.{length, get_or, length-map}
use borrow.Author.Tests.{eqb-false}
use Rattle.algebra.specs.Cases.{or_right}
use Rattle.algebra.specs.Counting.{one, count_p, length_snoc}
use Rattle.algebra.specs.Ranges.{up_from, up_from_length}
use Rattle.geometry.specs.Plane.{Point}
use Rattle.index_edge.specs.Edge.{Edge, eq_edge, lt_edge, edge_in}
use Rattle.index_edge.proofs.Edges.{eq_edge_refl, eq_edge_sym}
use Rattle.polygon.specs.Ring.{IsRing}
use Rattle.polygon.specs.Edges.{edges}
use Rattle.polygon.specs.Change.{Plan, stay, uncross, hoist, cut, lay, turned}
use Rattle.intersection_set.specs.Store.{Store, Found, nothing, at_place, no_rec, empty, push, rec_for, slot_for, newest_from, remove_found, remove_all_fuel, remove_all, removes}
use Rattle.intersection_set.proofs.Records.{counted_is}
use Rattle.intersection_set.proofs.Slots.{age_below}
use Rattle.intersection_set.proofs.Lengths.{cap_small}
use Rattle.machine.specs.Board.{meet_edges, Board}
use Rattle.machine.specs.Machine.{State, Traced, nothing_twice, scan_over, scans, pairs_with, pairs, fresh, start, begin, carry, carried, plan_of, step, run_word, after}
use Rattle.machine.specs.Demand3.{Picks}
use Rattle.machine.proofs.GoodPlan.{GoodPlan, once_edges, good_plan}
use Rattle.machine.proofs.Exactly.{Inv, recorded, start_exact, begin_inv, step_inv}
use Rattle.machine.proofs.Bounds.{no_longer, fresh_few, member_some}
use Rattle.machine.proofs.Room.{Whole, begin_whole, run_whole}

-- ---- removals push nothing
fuel_pushes : (k : ℕ) (e : Edge) (s : Store) → (remove_all_fuel k e s).pushes ≡ s.pushes
fuel_pushes zero e s = refl
fuel_pushes (suc k) e s = fuel_pushes k e (remove_found (newest_from e 0 s.dense) s) ∙ go (newest_from e 0 s.dense)
  where
    go : (f : Found) → (remove_found f s).pushes ≡ s.pushes
    go nothing = refl
    go (at_place k r) = refl

pub removes_pushes : (l : List Edge) (s : Store) → (removes l s).pushes ≡ s.pushes
removes_pushes [] s = refl
removes_pushes (e ∷ l) s = removes_pushes l (remove_all e s) ∙ fuel_pushes (length s.dense) e s

module _ (pt : ℕ → Point) where
  -- ---- an edge against a list: one push at most for each other edge
  scan_once : (b m : Bool) (f e : Edge) (s : Store) → (cond (not b && m) (push f e s) s).pushes + one b ≤ suc s.pushes
  scan_once true m f e s = omega arith
  scan_once false true f e s = omega arith
  scan_once false false f e s = omega arith

  scan_over_pushes : (e : Edge) (l : List Edge) (s : Store) → (scan_over pt e l s).pushes + count_p (eq_edge e) l ≤ s.pushes + length l
  scan_over_pushes e [] s = omega arith
  scan_over_pushes e (f ∷ l) s =
      omega (
        arith,
        scan_over_pushes e l (cond (not (eq_edge f e) && meet_edges pt f e) (push f e s) s),
        scan_once (eq_edge f e) (meet_edges pt f e) f e s,
        ap one (eq_edge_sym e f),
      )

  -- ---- some edges of the list against it
  scans_pushes : (all ls : List Edge) (s : Store) → ((e : Edge) → edge_in e ls ≡ true → edge_in e all ≡ true) → (scans pt all ls s).pushes ≤ s.pushes + length ls * (length all - 1)
  scans_pushes all [] s h = omega arith
  scans_pushes all (e ∷ ls) s h =
      omega (
        arith,
        scans_pushes all ls (scan_over pt e all s) (λ f m. h f (or_right (eq_edge f e) (edge_in f ls) m)),
        scan_over_pushes e all s,
        member_some e all (h e (rw (eq_edge_refl e))),
      )

  -- ---- the start: nothing is removed
  pair_adds : (b : Bool) (e f : Edge) (s : Store) → (cond b (push e f s) s).pushes + length s.dense ≡ s.pushes + length (cond b (push e f s) s).dense
  pair_adds true e f s = omega (arith, length_snoc s.dense (rec_for e f s.pushes (slot_for s.free (length s.dense))))
  pair_adds false e f s = refl

  pairs_with_adds : (e : Edge) (l : List Edge) (s : Store) → (pairs_with pt e l s).pushes + length s.dense ≡ s.pushes + length (pairs_with pt e l s).dense
  pairs_with_adds e [] s = refl
  pairs_with_adds e (f ∷ l) s =
      let t : Store = cond (lt_edge e f && meet_edges pt e f) (push e f s) s in
      omega (arith, pairs_with_adds e l t, pair_adds (lt_edge e f && meet_edges pt e f) e f s)

  pairs_adds : (all l : List Edge) (s : Store) → (pairs pt all l s).pushes + length s.dense ≡ s.pushes + length (pairs pt all l s).dense
  pairs_adds all [] s = refl
  pairs_adds all (e ∷ l) s = omega (arith, pairs_adds all l (pairs_with pt e all s), pairs_with_adds e all s)

three_laid : (n : ℕ) (m : Plan) (r : List ℕ) → length (lay n m r) ≤ 3
three_laid n stay r = omega arith
three_laid n (uncross a b) r = omega arith
three_laid n (hoist k p) r = omega arith

-- three edges with each of 255 others, for each of 1,000,000 picks
picks_cap : (n : ℕ) (cs : List ℕ) → n ≤ 256 → length cs ≤ 1000000 → length cs * (3 * (n - 1)) ≤ 765000000
picks_cap n cs small few = let k : 3 * (n - 1) ≤ 765 = omega arith in mul-le-mul few k

module _ (n : ℕ) (pt : ℕ → Point) where
  edges_length : (r : List ℕ) → length (edges n r) ≡ n
  edges_length r = length-map (up_from 0 n) _ ∙ up_from_length 0 n

  -- the first push has age 0: at the start there are as many pushes as records, at most one for each two edges
  pub start_pushes : (r : List ℕ) → 2 * (start n pt r).pushes ≤ n * (n - 1)
  start_pushes r =
      omega (
        arith,
        pairs_adds pt (edges n r) (edges n r) empty,
        fresh_few n pt r,
        no_longer (start n pt r).dense (fresh n pt r) (λ a b. omega (arith, start_exact n pt r a b, counted_is a b (fresh n pt r), counted_is a b (start n pt r).dense)),
      )

  pub carry_pushes : (m : Plan) (s : State) → GoodPlan n pt s.ring m → (carry n pt m s).store.pushes ≤ s.store.pushes + 3 * (n - 1)
  carry_pushes m s ok =
      let E : List Edge = edges n (turned n m s.ring) in
      let L : List Edge = lay n m s.ring in
      let k : length L * (length E - 1) ≤ 3 * (n - 1) = let q : length E - 1 ≤ n - 1 = omega (arith, edges_length (turned n m s.ring)) in mul-le-mul (three_laid n m s.ring) q in
      omega (
        arith,
        scans_pushes pt E L (removes (cut n m s.ring) s.store) (λ e h. ok.after e ∙ or_right (edge_in e (edges n s.ring) && not (edge_in e (cut n m s.ring))) (edge_in e L) h),
        removes_pushes (cut n m s.ring) s.store,
      )

  module _ (board : Board n pt) (was : Edge → Edge → Bool) (w : ℕ → State → ℕ) (picks : Picks w) where
    pub step_pushes : (c : ℕ) (t : Traced) → Inv n pt was t → (step n pt w c t).now.store.pushes ≤ t.now.store.pushes + 3 * (n - 1)
    step_pushes c t i = go (eqb (length t.now.store.dense) 0) refl
      where
        m : Plan
        m = plan_of n pt t.now (w c t.now)

        go : (b : Bool) → eqb (length t.now.store.dense) 0 ≡ b → (cond b t (carried n pt m t)).now.store.pushes ≤ t.now.store.pushes + 3 * (n - 1)
        go true u = omega arith
        go false u =
            let some : 0 < length t.now.store.dense = omega (arith, eqb-false (length t.now.store.dense) 0 u) in
            let k : ℕ = w c t.now in
            carry_pushes m t.now
            (good_plan n pt board t.now.ring i.ring_ok (get_or t.now.store.dense k no_rec).e0 (get_or t.now.store.dense k no_rec).e1
            (recorded n pt was t.now t.log (once_edges n t.now.ring i.ring_ok board.three) i.exact k (picks c t.now some)))

    pub run_pushes : (cs : List ℕ) (t : Traced) → Inv n pt was t → (run_word n pt w cs t).now.store.pushes ≤ t.now.store.pushes + length cs * (3 * (n - 1))
    run_pushes [] t i = omega arith
    run_pushes (c ∷ cs) t i = omega (arith, run_pushes cs (step n pt w c t) (step_inv n pt was board w picks c t i), step_pushes c t i)

    -- so a run of at most 1,000,000 picks from a state with at most n×(n-1) pushes makes fewer than 2³²
    pub run_fits : (cs : List ℕ) (t : Traced) → Inv n pt was t → n ≤ 256 → length cs ≤ 1000000 → t.now.store.pushes ≤ n * (n - 1) → (run_word n pt w cs t).now.store.pushes ≤ 765065280
    run_fits cs t i small few young = omega (arith, run_pushes cs t i, young, cap_small small, picks_cap n cs small few)

  module _ (board : Board n pt) (w : ℕ → State → ℕ) (picks : Picks w) where
    -- At most n×(n-1)/2 pushes at the start, and 3×(n-1) for each pick.
    pub pushes_after : (r cs : List ℕ) → IsRing n r → 2 * (after n pt w cs r).now.store.pushes ≤ n * (n - 1) + 2 * (length cs * (3 * (n - 1)))
    pushes_after r cs ring = omega (arith, run_pushes board nothing_twice w picks cs (begin n pt r) (begin_inv n pt r ring), start_pushes r)

    -- So with 256 points and 1,000,000 picks at most 765,032,640, and every age is a 32-bit number.
    pub ages_fit : (r cs : List ℕ) → IsRing n r → n ≤ 256 → length cs ≤ 1000000 → (k : ℕ) → let d = (after n pt w cs r).now.store.dense in k < length d → (get_or d k no_rec).age < 765032640
    ages_fit r cs ring small few k h =
        let whole : Whole n pt nothing_twice (after n pt w cs r) = run_whole n pt board nothing_twice w picks cs (begin n pt r) (begin_whole n pt board r ring) in
        omega (arith, pushes_after r cs ring, cap_small small, picks_cap n cs small few, age_below (after n pt w cs r).now.store whole.numbered k h)
