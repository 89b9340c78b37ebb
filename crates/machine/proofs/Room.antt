-- The record, its ages and slots, and the room that they need: at every moment of every run.
use mathlib.Core.Path.{◌≡◌, refl, sym, ap, subst, ◌∙◌}
use mathlib.Core.Bool.{Bool, true, false, cond}
use mathlib.Core.List.{List, [], ◌∷◌, ◌++◌}
use Prim.Native.Nat.{ℕ, zero, suc, ◌-◌, ◌*◌, ◌≤◌}
use native.Mathlib.Omega.{arith}
use lib.Dec.{eqb}
use lib.ListN.{length, take, drop, take-append-drop}
use Rattle.geometry.specs.Plane.{Point}
use Rattle.index_edge.specs.Edge.{Edge}
use Rattle.intersection_set.specs.Store.{Store, Found, nothing, at_place, empty, newest_from, remove_found, remove_all_fuel, remove_all, removes, grown}
use Rattle.machine.specs.Machine.{State, Laid, Traced, nothing_twice, scan_over, scans, start, carry, carried, plan_of, step, run_word, begin}
use Rattle.polygon.specs.Change.{Plan, lay, cut, turned, by_hoist}
use Rattle.polygon.specs.Edges.{edges}
use Rattle.polygon.specs.Ring.{IsRing}
use Rattle.machine.specs.Board.{Board}
use Rattle.machine.specs.Demand3.{Picks}
use Rattle.intersection_set.proofs.Records.{Newest, newest_is}
use Rattle.machine.proofs.Exactly.{Exact, carry_exact, Inv, begin_inv, step_inv}
use Rattle.machine.proofs.GoodPlan.{GoodPlan}
use Rattle.machine.proofs.Bounds.{few, scan_over_append, scans_append}
use Rattle.intersection_set.proofs.Slots.{Numbered, numbered_kept, numbered_empty, removes_kept, swap_remove_length, Grows, grows_then}
use Rattle.machine.proofs.Kept.{pairs_kept, carry_kept, scans_kept, scan_over_kept, scan_over_grows, scans_grows, pairs_grows}

remove_found_grown : (e : Edge) (s : Store) → grown (remove_found (newest_from e 0 s.dense) s) ≡ grown s
remove_found_grown e s = go (newest_from e 0 s.dense) (newest_is e 0 s.dense)
  where
    go : (f : Found) → Newest e 0 s.dense f → grown (remove_found f s) ≡ grown s
    go nothing t = refl
    go (at_place k r) t = omega (arith, swap_remove_length s.dense k (omega arith))

pub fuel_grown : (k : ℕ) (e : Edge) (s : Store) → grown (remove_all_fuel k e s) ≡ grown s
fuel_grown zero e s = refl
fuel_grown (suc k) e s = fuel_grown k e (remove_found (newest_from e 0 s.dense) s) ∙ remove_found_grown e s

pub removes_grown : (l : List Edge) (s : Store) → grown (removes l s) ≡ grown s
removes_grown [] s = refl
removes_grown (e ∷ l) s = removes_grown l (remove_all e s) ∙ fuel_grown (length s.dense) e s

module _ (n : ℕ) (pt : ℕ → Point) where
  -- a store whose ages and slots are right, within the room of the buffers
  pub record Roomy (u : Store) : Type 0 where
    pub numbered : Numbered u
    pub lives : length u.dense ≤ n * (n - 1)
    pub slots : grown u ≤ n * (n - 1)

  -- the machine between two picks; `was` says which pairs were named twice before its moves
  pub record Whole (was : Edge → Edge → Bool) (t : Traced) : Type 0 where
    pub inv : Inv n pt was t
    pub numbered : Numbered t.now.store
    pub room : grown t.now.store ≤ n * (n - 1)

  -- the store of a move after its removals
  abbrev pub cleared : Plan → State → Store
  cleared m s = removes (cut n m s.ring) s.store

  -- the edges of the ring after a move
  abbrev pub new_edges : Plan → State → List Edge
  new_edges m s = edges n (turned n m s.ring)

  -- in the middle of a move's searches: the new edges of xs are done, and e against i edges of the ring
  pub mid_room : (was : Edge → Edge → Bool) (m : Plan) (s : State) (g : List Laid) → GoodPlan n pt s.ring m → Exact n pt was s g → Numbered s.store → grown s.store ≤ n * (n - 1)
      → (xs ys : List Edge) (e : Edge) (i : ℕ) → lay n m s.ring ≡ xs ++ e ∷ ys
      → Roomy (scan_over pt e (take i (new_edges m s)) (scans pt (new_edges m s) xs (cleared m s)))
  mid_room was m s g ok ex num room xs ys e i h =
      let s₁ : Store = cleared m s in
      let E : List Edge = new_edges m s in
      let t : Store = scans pt E xs s₁ in
      let u : Store = scan_over pt e (take i E) t in
      let z : Store = (carry n pt m s).store in
      let p₁ : Numbered s₁ = removes_kept Numbered numbered_kept (cut n m s.ring) s.store num in
      let p : Numbered u = scan_over_kept Numbered numbered_kept pt e (take i E) t (scans_kept Numbered numbered_kept pt E xs s₁ p₁) in
      let eq : scans pt E ys (scan_over pt e (drop i E) u) ≡ z
      = sym
      (ap (λ (l : List Edge). scans pt E l s₁) h
      ∙ scans_append pt E xs (e ∷ ys) s₁
      ∙ ap (scans pt E ys) (ap (λ (l : List Edge). scan_over pt e l t) (sym (take-append-drop i E)) ∙ scan_over_append pt e (take i E) (drop i E) t)) in
      let after : Grows u z = subst (Grows u) eq (grows_then u _ _ (scan_over_grows pt e (drop i E) u) (scans_grows pt E ys (scan_over pt e (drop i E) u))) in
      let all : Grows s₁ z = scans_grows pt E (lay n m s.ring) s₁ in
      let f : length z.dense ≤ n * (n - 1) = few n pt was (carry n pt m s) (record { hoisted = by_hoist m; news = lay n m s.ring } ∷ g) (carry_exact n pt was m s g ok ex) in
      let k : grown s₁ ≡ grown s.store = removes_grown (cut n m s.ring) s.store in
      record { numbered = p; lives = omega (arith, f, after.more); slots = omega (arith, f, k, after.up, all.most) }

  module _ (board : Board n pt) where
    pub begin_whole : (r : List ℕ) → IsRing n r → Whole nothing_twice (begin n pt r)
    begin_whole r p =
        let i : Inv n pt nothing_twice (begin n pt r) = begin_inv n pt r p in
        let g : Grows empty (start n pt r) = pairs_grows pt (edges n r) (edges n r) empty in
        record {
          inv = i;
          numbered = pairs_kept Numbered numbered_kept pt (edges n r) (edges n r) empty numbered_empty;
          room = omega (arith, g.most, few n pt nothing_twice (begin n pt r).now [] i.exact);
        }

    module _ (was : Edge → Edge → Bool) (w : ℕ → State → ℕ) (picks : Picks w) where
      pub step_whole : (c : ℕ) (t : Traced) → Whole was t → Whole was (step n pt w c t)
      step_whole c t i = go (eqb (length t.now.store.dense) 0) (step_inv n pt was board w picks c t i.inv)
        where
          m : Plan
          m = plan_of n pt t.now (w c t.now)

          go : (b : Bool) → Inv n pt was (cond b t (carried n pt m t)) → Whole was (cond b t (carried n pt m t))
          go true j = i
          go false j =
              record {
                inv = j;
                numbered = carry_kept Numbered numbered_kept pt n m t.now i.numbered;
                room =
                    omega (
                      arith,
                      (scans_grows pt (new_edges m t.now) (lay n m t.now.ring) (cleared m t.now)).most,
                      removes_grown (cut n m t.now.ring) t.now.store,
                      i.room,
                      few n pt was (carried n pt m t).now (carried n pt m t).log j.exact,
                    );
              }

      pub run_whole : (cs : List ℕ) (t : Traced) → Whole was t → Whole was (run_word n pt w cs t)
      run_whole [] t i = i
      run_whole (c ∷ cs) t i = run_whole cs (step n pt w c t) (step_whole c t i)
