-- Stores that are the same but for ages and slots stay so: under a push, under the removal of all of an edge.
use mathlib.Core.Path.{◌≡◌, refl, sym, ◌∙◌, ap, subst}
use mathlib.Core.Bool.{Bool, true, false, ◌||◌, cond}
use mathlib.Core.List.{List, [], ◌∷◌, ◌++◌}
use mathlib.Core.Logic.{◌⊎◌, inl, inr}
use Prim.Native.Nat.{ℕ, zero, suc, ◌+◌, ◌-◌, ◌≤◌, ◌<◌}
use native.Mathlib.Omega.{arith}
use lib.Dec.{eqb, ltb}
use lib.ListN.{length, get_or, get_or-append}
use lib.Seq.{get_or-append_seam}
use borrow.Author.Tests.{lt-ltb, le-ltb}
use Rattle.algebra.specs.Cases.{both, eq_cases, never}
use Rattle.algebra.specs.Counting.{length_snoc}
use Rattle.index_edge.specs.Edge.{Edge, eq_edge}
use Rattle.intersection_set.specs.Store.{Rec, Store, no_rec, push, rec_for, slot_for, names, swap_remove, Found, nothing, at_place, newer, newest_from, remove_found, remove_all_fuel, remove_all, removes}
use Rattle.intersection_set.proofs.Slots.{swap_remove_length}
use Rattle.intersection_set.proofs.Draining.{swap_other, swap_here}
use Rattle.resume.specs.AgesAside.{age_at, Twin, Old}

-- ---- positions
snoc_at : (d : List Rec) (r : Rec) (k : ℕ) → k < suc (length d)
    → ((k < length d) × (get_or (d ++ (r ∷ [])) k no_rec ≡ get_or d k no_rec)) ⊎ ((k ≡ length d) × (get_or (d ++ (r ∷ [])) k no_rec ≡ r))
snoc_at d r k h =
    both (eq_cases k (length d))
    (λ e. inr (e.0, ap (λ (i : ℕ). get_or (d ++ (r ∷ [])) i no_rec) e.0 ∙ get_or-append_seam d r [] no_rec))
    (λ e. let l : k < length d = omega (arith, e.0) in inl (l, get_or-append d (r ∷ []) no_rec k l))

-- what stands at i once the last entry is put in the place k
abbrev from : ℕ → ℕ → ℕ → ℕ
from len k i = cond (eqb i k) (len - 1) i

from_lt : (len k i : ℕ) → suc i < len → from len k i < len
from_lt len k i h = go (eqb i k)
  where
    go : (t : Bool) → cond t (len - 1) i < len
    go true = omega arith
    go false = omega arith

swap_at : (d : List Rec) (k i : ℕ) → k < length d → suc i < length d → get_or (swap_remove d k) i no_rec ≡ get_or d (from (length d) k i) no_rec
swap_at d k i hk hi =
    both (eq_cases i k)
    (λ e. rw e.1 (ap (λ (j : ℕ). get_or (swap_remove d k) j no_rec) e.0 ∙ swap_here d k hk (omega (arith, e.0))))
    (λ e. rw e.1 (swap_other d k i hk (omega arith) e.0))

-- ---- twins
module _ (d d' : List Rec) (t : Twin d d') where
  module _ (r r' : Rec) (same0 : r.e0 ≡ r'.e0) (same1 : r.e1 ≡ r'.e1) (new : (k : ℕ) → k < length d → age_at d k < r.age) (new' : (k : ℕ) → k < length d' → age_at d' k < r'.age) where
    abbrev x : ℕ → Rec
    x k = get_or (d ++ (r ∷ [])) k no_rec

    abbrev x' : ℕ → Rec
    x' k = get_or (d' ++ (r' ∷ [])) k no_rec

    -- an old entry, or the new one
    abbrev At : ℕ → Type 0
    At k = ((k < length d) × (x k ≡ get_or d k no_rec) × (x' k ≡ get_or d' k no_rec)) ⊎ ((x k ≡ r) × (x' k ≡ r'))

    here : (k : ℕ) → k < length (d ++ (r ∷ [])) → At k
    here k h = go (snoc_at d r k (omega (arith, length_snoc d r))) (snoc_at d' r' k (omega (arith, length_snoc d r, t.count)))
      where
        go : ((k < length d) × (x k ≡ get_or d k no_rec)) ⊎ ((k ≡ length d) × (x k ≡ r))
            → ((k < length d') × (x' k ≡ get_or d' k no_rec)) ⊎ ((k ≡ length d') × (x' k ≡ r')) → At k
        go (inl a) (inl b) = inl (a.0, a.1, b.1)
        go (inl a) (inr b) = absurd (omega (arith, t.count, a.0, b.0))
        go (inr a) (inl b) = absurd (omega (arith, t.count, a.0, b.0))
        go (inr a) (inr b) = inr (a.1, b.1)

    at_e0 : (k : ℕ) → At k → (x k).e0 ≡ (x' k).e0
    at_e0 k (inl a) = ap (λ (y : Rec). y.e0) a.1 ∙ t.first k a.0 ∙ sym (ap (λ (y : Rec). y.e0) a.2)
    at_e0 k (inr a) = ap (λ (y : Rec). y.e0) a.0 ∙ same0 ∙ sym (ap (λ (y : Rec). y.e0) a.1)

    at_e1 : (k : ℕ) → At k → (x k).e1 ≡ (x' k).e1
    at_e1 k (inl a) = ap (λ (y : Rec). y.e1) a.1 ∙ t.second k a.0 ∙ sym (ap (λ (y : Rec). y.e1) a.2)
    at_e1 k (inr a) = ap (λ (y : Rec). y.e1) a.0 ∙ same1 ∙ sym (ap (λ (y : Rec). y.e1) a.1)

    at_age : (j k : ℕ) → At j → At k → ltb (x j).age (x k).age ≡ ltb (x' j).age (x' k).age
    at_age j k (inl a) (inl b) = (λ i. ltb (a.1 i).age (b.1 i).age) ∙ t.order j k a.0 b.0 ∙ sym (λ i. ltb (a.2 i).age (b.2 i).age)
    at_age j k (inl a) (inr b) =
        (λ i. ltb (a.1 i).age (b.0 i).age)
        ∙ lt-ltb _ _ (new j a.0)
        ∙ sym (lt-ltb _ _ (new' j (omega (arith, t.count, a.0))))
        ∙ sym (λ i. ltb (a.2 i).age (b.1 i).age)
    at_age j k (inr a) (inl b) =
        (λ i. ltb (a.0 i).age (b.1 i).age)
        ∙ le-ltb r.age (age_at d k) (omega (arith, new k b.0))
        ∙ sym (le-ltb r'.age (age_at d' k) (omega (arith, new' k (omega (arith, t.count, b.0)))))
        ∙ sym (λ i. ltb (a.1 i).age (b.2 i).age)
    at_age j k (inr a) (inr b) =
        (λ i. ltb (a.0 i).age (b.0 i).age) ∙ le-ltb r.age r.age (omega arith) ∙ sym (le-ltb r'.age r'.age (omega arith)) ∙ sym (λ i. ltb (a.1 i).age (b.1 i).age)

    pub snoc_twin : Twin (d ++ (r ∷ [])) (d' ++ (r' ∷ []))
    snoc_twin = record {
      count = omega (arith, length_snoc d r, length_snoc d' r', t.count);
      first = λ k h. at_e0 k (here k h);
      second = λ k h. at_e1 k (here k h);
      order = λ j k hj hk. at_age j k (here j hj) (here k hk);
    }

  pub swap_twin : (k : ℕ) → k < length d → Twin (swap_remove d k) (swap_remove d' k)
  swap_twin k h =
      let e = t.count in
      let h' : k < length d' = omega arith in
      let n = swap_remove_length d k h in
      let n' = swap_remove_length d' k h' in
      record {
        count = omega arith;
        first = λ i l.
            ap (λ (y : Rec). y.e0) (swap_at d k i h (omega arith))
            ∙ t.first (from (length d) k i) (from_lt (length d) k i (omega arith))
            ∙ sym (ap (λ (y : Rec). y.e0) (there i (omega arith)));
        second = λ i l.
            ap (λ (y : Rec). y.e1) (swap_at d k i h (omega arith))
            ∙ t.second (from (length d) k i) (from_lt (length d) k i (omega arith))
            ∙ sym (ap (λ (y : Rec). y.e1) (there i (omega arith)));
        order = λ i j li lj.
            (λ x. ltb (swap_at d k i h (omega arith) x).age (swap_at d k j h (omega arith) x).age)
            ∙ t.order (from (length d) k i) (from (length d) k j) (from_lt (length d) k i (omega arith)) (from_lt (length d) k j (omega arith))
            ∙ sym (λ x. ltb (there i (omega arith) x).age (there j (omega arith) x).age);
      }
    where
      there : (i : ℕ) → suc i < length d → get_or (swap_remove d' k) i no_rec ≡ get_or d' (from (length d) k i) no_rec
      there i l = swap_at d' k i (omega (arith, t.count)) (omega (arith, t.count)) ∙ ap (λ (m : ℕ). get_or d' (from m k i) no_rec) (sym t.count)

-- ---- the newest record that names an edge stands at the same place
abbrev Both : ℕ → List Rec → List Rec → Found → Found → Type 0
Both i d d' nothing nothing = Unit {0}
Both i d d' nothing (at_place k r) = ⊥
Both i d d' (at_place k r) nothing = ⊥
Both i d d' (at_place k r) (at_place k' r') = (p : ℕ) × (k ≡ i + p) × (k' ≡ i + p) × (p < length d) × (get_or d p no_rec ≡ r) × (get_or d' p no_rec ≡ r')

tail_twin : (r r' : Rec) (d d' : List Rec) → Twin (r ∷ d) (r' ∷ d') → Twin d d'
tail_twin r r' d d' t = record {
  count = omega (arith, t.count);
  first = λ k h. t.first (suc k) (omega arith);
  second = λ k h. t.second (suc k) (omega arith);
  order = λ j k hj hk. t.order (suc j) (suc k) (omega arith) (omega arith);
}

newest_both : (e : Edge) (i : ℕ) (d d' : List Rec) → Twin d d' → Both i d d' (newest_from e i d) (newest_from e i d')
newest_both e i [] [] t = tt
newest_both e i [] (r' ∷ d') t = absurd (omega (arith, t.count))
newest_both e i (r ∷ d) [] t = absurd (omega (arith, t.count))
newest_both e i (r ∷ d) (r' ∷ d') t =
    go (names e r) (names e r') (λ x. eq_edge e (t.first 0 (omega arith) x) || eq_edge e (t.second 0 (omega arith) x))
    (newest_from e (suc i) d) (newest_from e (suc i) d') (newest_both e (suc i) d d' (tail_twin r r' d d' t))
  where
    on : (f f' : Found) → Both (suc i) d d' f f' → Both i (r ∷ d) (r' ∷ d') f f'
    on nothing nothing b = tt
    on nothing (at_place k q) b = b
    on (at_place k q) nothing b = b
    on (at_place k q) (at_place k' q') b = (suc b.0, omega (arith, b.1), omega (arith, b.2), omega (arith, b.3), b.4, b.5)

    here : Both i (r ∷ d) (r' ∷ d') (at_place i r) (at_place i r')
    here = (0, omega arith, omega arith, omega arith, refl, refl)

    pick : (c c' : Bool) → c ≡ c' → (k k' : ℕ) (q q' : Rec) → Both (suc i) d d' (at_place k q) (at_place k' q')
        → Both i (r ∷ d) (r' ∷ d') (cond c (at_place i r) (at_place k q)) (cond c' (at_place i r') (at_place k' q'))
    pick true true z k k' q q' b = here
    pick false false z k k' q q' b = on (at_place k q) (at_place k' q') b
    pick true false z k k' q q' b = never true refl z
    pick false true z k k' q q' b = never false z refl

    choose : (f f' : Found) → Both (suc i) d d' f f' → Both i (r ∷ d) (r' ∷ d') (newer i r f) (newer i r' f')
    choose nothing nothing b = here
    choose nothing (at_place k q) b = absurd b
    choose (at_place k q) nothing b = absurd b
    choose (at_place k q) (at_place k' q') b =
        pick (ltb q.age r.age) (ltb q'.age r'.age)
        ((λ x. ltb (sym b.4 x).age r.age) ∙ t.order (suc b.0) 0 (omega (arith, b.3)) (omega arith) ∙ (λ x. ltb (b.5 x).age r'.age))
        k k' q q' b

    go : (c c' : Bool) → c ≡ c' → (f f' : Found) → Both (suc i) d d' f f' → Both i (r ∷ d) (r' ∷ d') (cond c (newer i r f) f) (cond c' (newer i r' f') f')
    go true true z f f' b = choose f f' b
    go false false z f f' b = on f f' b
    go true false z f f' b = never true refl z
    go false true z f f' b = never false z refl

-- ---- stores
pub record Alike (s s' : Store) : Type 0 where
  pub records : Twin s.dense s'.dense
  pub old : Old s
  pub old' : Old s'

old_push : (e f : Edge) (s : Store) → Old s → Old (push e f s)
old_push e f s o k h =
    both (snoc_at s.dense r k (omega (arith, length_snoc s.dense r)))
    (λ a. omega (arith, ap (λ (y : Rec). y.age) a.1, o k a.0))
    (λ a. omega (arith, ap (λ (y : Rec). y.age) a.1))
  where
    r : Rec
    r = rec_for e f s.pushes (slot_for s.free (length s.dense))

pub push_alike : (e f : Edge) (s s' : Store) → Alike s s' → Alike (push e f s) (push e f s')
push_alike e f s s' a = record {
  records = snoc_twin s.dense s'.dense a.records _ _ refl refl a.old a.old';
  old = old_push e f s a.old;
  old' = old_push e f s' a.old';
}

old_swap : (d : List Rec) (p k : ℕ) → k < length d → ((i : ℕ) → i < length d → age_at d i < p) → (i : ℕ) → i < length (swap_remove d k)
    → age_at (swap_remove d k) i < p
old_swap d p k h o i l =
    let n = swap_remove_length d k h in
    omega (arith, ap (λ (y : Rec). y.age) (swap_at d k i h (omega arith)), o (from (length d) k i) (from_lt (length d) k i (omega arith)))

found_alike : (e : Edge) (s s' : Store) → Alike s s' → Alike (remove_found (newest_from e 0 s.dense) s) (remove_found (newest_from e 0 s'.dense) s')
found_alike e s s' a = go (newest_from e 0 s.dense) (newest_from e 0 s'.dense) (newest_both e 0 s.dense s'.dense a.records)
  where
    go : (f f' : Found) → Both 0 s.dense s'.dense f f' → Alike (remove_found f s) (remove_found f' s')
    go nothing nothing b = a
    go nothing (at_place k q) b = absurd b
    go (at_place k q) nothing b = absurd b
    go (at_place k q) (at_place k' q') b =
        let z : k' ≡ k = omega (arith, b.1, b.2) in
        let h : k < length s.dense = omega (arith, b.1, b.3) in
        let h' : k < length s'.dense = omega (arith, a.records.count) in
        subst (λ (j : ℕ). Alike (remove_found (at_place k q) s) (remove_found (at_place j q') s')) (sym z)
        (record {
          records = swap_twin s.dense s'.dense a.records k h;
          old = old_swap s.dense s.pushes k h a.old;
          old' = old_swap s'.dense s'.pushes k h' a.old';
        })

fuel_alike : (k : ℕ) (e : Edge) (s s' : Store) → Alike s s' → Alike (remove_all_fuel k e s) (remove_all_fuel k e s')
fuel_alike zero e s s' a = a
fuel_alike (suc k) e s s' a = fuel_alike k e _ _ (found_alike e s s' a)

remove_all_alike : (e : Edge) (s s' : Store) → Alike s s' → Alike (remove_all e s) (remove_all e s')
remove_all_alike e s s' a = subst (λ (k : ℕ). Alike (remove_all e s) (remove_all_fuel k e s')) a.records.count (fuel_alike (length s.dense) e s s' a)

pub removes_alike : (l : List Edge) (s s' : Store) → Alike s s' → Alike (removes l s) (removes l s')
removes_alike [] s s' a = a
removes_alike (e ∷ l) s s' a = removes_alike l (remove_all e s) (remove_all e s') (remove_all_alike e s s' a)

pub push_if_alike : (b : Bool) (e f : Edge) (s s' : Store) → Alike s s' → Alike (cond b (push e f s) s) (cond b (push e f s') s')
push_if_alike true e f s s' a = push_alike e f s s' a
push_if_alike false e f s s' a = a

-- ---- the next age
pub push_if_pushes : (b : Bool) (e f : Edge) (s s' : Store) → s'.pushes ≤ s.pushes → (cond b (push e f s') s').pushes ≤ (cond b (push e f s) s).pushes
push_if_pushes true e f s s' h = omega arith
push_if_pushes false e f s s' h = h
