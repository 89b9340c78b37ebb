-- Ages and slots: what a push and a removal keep.
use mathlib.Core.Path.{◌≡◌, refl, sym, ap, subst}
use mathlib.Core.Bool.{Bool, true, false, cond}
use mathlib.Core.List.{List, [], ◌∷◌, ◌++◌}
use Prim.Native.Nat.{ℕ, zero, suc, ◌+◌, ◌≤◌, ◌<◌, max}
use native.Mathlib.Omega.{arith}
use borrow.Author.Tests.{ltb-true, ltb-false, eqb-true, eqb-false, lt-ltb, le-ltb, eq-eqb}
use lib.Dec.{eqb, ltb}
use lib.ListN.{length, get_or}
use Rattle.algebra.specs.Counting.{one, one_le, count_snoc, count_length, count_at, count_at_two, length_snoc}
use Rattle.index_edge.specs.Edge.{Edge}
use Rattle.intersection_set.specs.Store.{Rec, Store, Found, nothing, at_place, no_rec, empty, grown, push, rec_for, slot_for, rest, swap_remove, newest_from, remove_found, remove_all_fuel, remove_all, removes}
use Rattle.algebra.specs.Cases.{both, true_or_false}
pub use Rattle.intersection_set.specs.Numbered.{Ages, SlotsOf, Numbered}
use Rattle.intersection_set.proofs.Records.{count_swap, Newest, newest_is}

-- ---- the principle
pub record Kept (Q : Store → Type 0) : Type 1 where
  pub on_push : (e f : Edge) (s : Store) → Q s → Q (push e f s)
  pub on_remove : (k : ℕ) (s : Store) → k < length s.dense → Q s → Q (remove_found (at_place k (get_or s.dense k no_rec)) s)

module _ (Q : Store → Type 0) (kept : Kept Q) where
  pub push_if_kept : (b : Bool) (f e : Edge) (s : Store) → Q s → Q (cond b (push f e s) s)
  push_if_kept true f e s q = kept.on_push f e s q
  push_if_kept false f e s q = q

  pub remove_kept : (e : Edge) (s : Store) → Q s → Q (remove_found (newest_from e 0 s.dense) s)
  remove_kept e s q = go (newest_from e 0 s.dense) (newest_is e 0 s.dense)
    where
      go : (f : Found) → Newest e 0 s.dense f → Q (remove_found f s)
      go nothing t = q
      go (at_place k r) t =
          let j : k ≡ t.place = omega arith in
          let z : get_or s.dense k no_rec ≡ r = rw j t.there in
          subst (λ (x : Rec). Q (remove_found (at_place k x) s)) z (kept.on_remove k s (omega arith) q)

  pub fuel_kept : (k : ℕ) (e : Edge) (s : Store) → Q s → Q (remove_all_fuel k e s)
  fuel_kept zero e s q = q
  fuel_kept (suc k) e s q = fuel_kept k e _ (remove_kept e s q)

  pub removes_kept : (l : List Edge) (s : Store) → Q s → Q (removes l s)
  removes_kept [] s q = q
  removes_kept (e ∷ l) s q = removes_kept l (remove_all e s) (fuel_kept (length s.dense) e s q)

-- ---- ages and slots
below_suc : (k p : ℕ) → one (ltb k p) + one (eqb k p) ≡ one (ltb k (suc p))
below_suc k p =
    both (true_or_false (eqb k p))
    (λ h. let e : k ≡ p = eqb-true k p h in rw (h, le-ltb k p (omega arith), lt-ltb k (suc p) (omega arith)))
    (λ h.
    let e : k ≡ p → ⊥ = eqb-false k p h in
    both (true_or_false (ltb k p))
    (λ u. rw (h, u, lt-ltb k (suc p) (omega (arith, ltb-true k p u))))
    (λ u. rw (h, u, le-ltb k (suc p) (omega (arith, e, ltb-false k p u)))))

push_ages : (d : List Rec) (p : ℕ) (r : Rec) → r.age ≡ p → Ages d p → Ages (d ++ (r ∷ [])) (suc p)
push_ages d p r e h a = omega (arith, count_snoc (λ x. eqb a x.age) d r, h a, below_suc a p, ap (λ (x : ℕ). one (eqb a x)) e)

push_slots : (d : List Rec) (f : List ℕ) (r : Rec) → r.slot ≡ slot_for f (length d) → SlotsOf d f → SlotsOf (d ++ (r ∷ [])) (rest f)
push_slots d [] r e h k =
    let z : length (d ++ (r ∷ [])) + 0 ≡ suc (length d + 0) = omega (arith, length_snoc d r) in
    let e' : r.slot ≡ length d + 0 = omega arith in
    omega (
      arith,
      count_snoc (λ x. eqb k x.slot) d r,
      h k,
      below_suc k (length d + 0),
      ap (λ (x : ℕ). one (ltb k x)) z,
      ap (λ (x : ℕ). one (eqb k x)) e',
    )
push_slots d (a ∷ f) r e h k =
    let z : length (d ++ (r ∷ [])) + length f ≡ length d + suc (length f) = omega (arith, length_snoc d r) in
    omega (arith, count_snoc (λ x. eqb k x.slot) d r, h k, ap (λ (x : ℕ). one (ltb k x)) z, ap (λ (x : ℕ). one (eqb k x)) e)

pub swap_remove_length : (d : List Rec) (k : ℕ) → k < length d → suc (length (swap_remove d k)) ≡ length d
swap_remove_length d k h = omega (arith, count_swap (λ _. true) d k h, count_length d, count_length (swap_remove d k))

pub numbered_kept : Kept Numbered
numbered_kept =
    record {
      on_push = λ e f s q. record { ages = push_ages s.dense s.pushes _ refl q.ages; slots = push_slots s.dense s.free _ refl q.slots };
      on_remove =
          λ k s h q. record {
            ages = λ a. omega (arith, count_swap (λ r. eqb a r.age) s.dense k h, q.ages a);
            slots = λ j. omega (arith, count_swap (λ r. eqb j r.slot) s.dense k h, q.slots j, ap (λ (x : ℕ). one (ltb j x)) (same_grown k s h));
          };
    }
  where
    same_grown : (k : ℕ) (s : Store) → k < length s.dense → length s.dense + length s.free ≡ length (swap_remove s.dense k) + suc (length s.free)
    same_grown k s h = omega (arith, swap_remove_length s.dense k h)

pub numbered_empty : Numbered empty
numbered_empty = record { ages = λ a. omega arith; slots = λ k. sym (ap one (le-ltb k 0 (omega arith))) }

-- ---- what it says of the records
module _ (s : Store) (pool : Numbered s) where
  pub age_below : (k : ℕ) → k < length s.dense → (get_or s.dense k no_rec).age < s.pushes
  age_below k h =
      let a : ℕ = (get_or s.dense k no_rec).age in
      both (true_or_false (ltb a s.pushes)) (ltb-true a s.pushes)
      (λ u. absurd (omega (arith, pool.ages a, ap one u, count_at (λ r. eqb a r.age) s.dense k no_rec h (eq-eqb a a refl))))

  pub slots_differ : (j k : ℕ) → j < k → k < length s.dense → (get_or s.dense j no_rec).slot ≡ (get_or s.dense k no_rec).slot → ⊥
  slots_differ j k i h e =
      let a : ℕ = (get_or s.dense k no_rec).slot in
      omega (arith, pool.slots a, one_le (ltb a (length s.dense + length s.free)) true (λ _. refl), count_at_two (λ r. eqb a r.slot) s.dense j k no_rec i h (eq-eqb a _ (sym e)) (eq-eqb a a refl))

  pub slot_below : (k : ℕ) → k < length s.dense → (get_or s.dense k no_rec).slot < length s.dense + length s.free
  slot_below k h =
      let a : ℕ = (get_or s.dense k no_rec).slot in
      let g : ℕ = length s.dense + length s.free in
      both (true_or_false (ltb a g)) (ltb-true a g)
      (λ u. absurd (omega (arith, pool.slots a, ap one u, count_at (λ r. eqb a r.slot) s.dense k no_rec h (eq-eqb a a refl))))

  pub free_below : (k : ℕ) → k < length s.free → get_or s.free k 0 < length s.dense + length s.free
  free_below k h =
      let a : ℕ = get_or s.free k 0 in
      let g : ℕ = length s.dense + length s.free in
      both (true_or_false (ltb a g)) (ltb-true a g)
      (λ u. absurd (omega (arith, pool.slots a, ap one u, count_at (eqb a) s.free k 0 h (eq-eqb a a refl))))

-- ---- how many slots are grown, and how many pushes made: a push grows a slot only where none is free, so never past the most that lived
pub record Grows (s t : Store) : Type 0 where
  pub more : length s.dense ≤ length t.dense
  pub most : grown t ≤ max (grown s) (length t.dense)
  pub up : grown s ≤ grown t
  pub pushed : s.pushes ≤ t.pushes

pub grows_same : (s : Store) → Grows s s
grows_same s = record { more = omega arith; most = omega arith; up = omega arith; pushed = omega arith }

pub grows_then : (s t u : Store) → Grows s t → Grows t u → Grows s u
grows_then s t u p q = record { more = omega arith; most = omega arith; up = omega arith; pushed = omega arith }

last : Edge → Edge → Store → Rec
last e f s = rec_for e f s.pushes (slot_for s.free (length s.dense))

push_grows : (e f : Edge) (s : Store) → Grows s (push e f s)
unfolding last
push_grows e f s = go s.free refl
  where
    go : (l : List ℕ) → s.free ≡ l → Grows s (push e f s)
    go [] h =
        let z : length (rest s.free) ≡ 0 = ap (λ (x : List ℕ). length (rest x)) h in
        let z' : length s.free ≡ 0 = ap length h in
        record { more = omega (arith, length_snoc s.dense (last e f s)); most = omega (arith, length_snoc s.dense (last e f s)); up = omega (arith, length_snoc s.dense (last e f s)); pushed = omega arith }
    go (a ∷ l) h =
        let z : length (rest s.free) ≡ length l = ap (λ (x : List ℕ). length (rest x)) h in
        let z' : length s.free ≡ suc (length l) = ap length h in
        record { more = omega (arith, length_snoc s.dense (last e f s)); most = omega (arith, length_snoc s.dense (last e f s)); up = omega (arith, length_snoc s.dense (last e f s)); pushed = omega arith }

pub push_if_grows : (b : Bool) (f e : Edge) (s : Store) → Grows s (cond b (push f e s) s)
push_if_grows true f e s = push_grows f e s
push_if_grows false f e s = grows_same s
