-- What holds of every store that pushes and removals make: ages, slots, lists, and the removal of all of an edge.
use mathlib.Core.Path.{◌≡◌, refl, sym, ap, ◌∙◌}
use mathlib.Core.Logic.{◌⊎◌, inl, inr, ◌≢◌}
use mathlib.Core.Bool.{true, ◌&&◌}
use mathlib.Core.List.{List, [], ◌∷◌}
use Prim.Native.Nat.{ℕ, suc, ◌-◌, ◌*◌, ◌≤◌, ◌<◌}
use native.Mathlib.Omega.{arith}
use borrow.Author.Tests.{eqb-true, eq-eqb, lt-ltb}
use lib.Dec.{eqb, ltb}
use lib.ListN.{length, get_or}
use Rattle.std.proofs.lemmas.List.{nil_from_length}
use Rattle.algebra.specs.Cases.{both, eq_cases, and_left, and_right}
use Rattle.algebra.specs.Counting.{one, count_p, one_le, count_at, count_at_two, count_find, count_length, count_le, length_snoc}
use Rattle.index_edge.specs.Edge.{Edge}
use Rattle.intersection_set.specs.Store.{Rec, Store, Found, nothing, at_place, no_rec, grown, push, rec_for, slot_for, names, newest_from, remove_found, remove_all}
use Rattle.intersection_set.specs.Numbered.{Numbered}
use Rattle.intersection_set.specs.Lists.{none, list_of}
use Rattle.intersection_set.proofs.Records.{Newest, newest_is, remove_all_none}
use Rattle.intersection_set.proofs.Slots.{swap_remove_length, slot_below, free_below, push_if_grows}
use Rattle.intersection_set.proofs.Chains.{Falling, eq_record, eq_record_refl, eq_record_true}
use Rattle.intersection_set.proofs.ByAge.{list_of_count, list_of_falling}
use Rattle.intersection_set.proofs.Lengths.{cap_small}

module _ (s : Store) (numbered : Numbered s) where
  -- ---- ages differ, and fall along each edge's list
  pub ages_differ : (j k : ℕ) → j < k → k < length s.dense → (get_or s.dense j no_rec).age ≢ (get_or s.dense k no_rec).age
  ages_differ j k i h e =
      let a : ℕ = (get_or s.dense k no_rec).age in
      omega (arith, numbered.ages a, one_le (ltb a s.pushes) true (λ _. refl), count_at_two (λ r. eqb a r.age) s.dense j k no_rec i h (eq-eqb a _ (sym e)) (eq-eqb a a refl))

  pub ages_fall : (e : Edge) → Falling (list_of e s.dense)
  ages_fall e = list_of_falling e s.dense (λ a. omega (arith, numbered.ages a, one_le (ltb a s.pushes) true (λ _. refl)))

  -- ---- live and free slots are exactly the slots grown, none in both
  abbrev Live : ℕ → Type 0
  Live x = (j : ℕ) × (j < length s.dense) × ((get_or s.dense j no_rec).slot ≡ x)

  abbrev Free : ℕ → Type 0
  Free x = (j : ℕ) × (j < length s.free) × (get_or s.free j 0 ≡ x)

  pub grown_live_or_free : (x : ℕ) → x < grown s → Live x ⊎ Free x
  grown_live_or_free x h =
      both (eq_cases (count_p (λ r. eqb x r.slot) s.dense) 0)
      (λ z.
      let f : (k : ℕ) × (k < length s.free) × (eqb x (get_or s.free k 0) ≡ true) = count_find (eqb x) s.free 0 (omega (arith, z.0, numbered.slots x, ap one (lt-ltb x (grown s) h))) in
      inr (f.0, f.1, sym (eqb-true x _ f.2)))
      (λ z.
      let f : (k : ℕ) × (k < length s.dense) × (eqb x (get_or s.dense k no_rec).slot ≡ true) = count_find (λ r. eqb x r.slot) s.dense no_rec (omega (arith, z.0)) in
      inl (f.0, f.1, sym (eqb-true x _ f.2)))

  pub live_grown : (x : ℕ) → Live x → x < grown s
  live_grown x l = omega (arith, l.2, slot_below s numbered l.0 l.1)

  pub free_grown : (x : ℕ) → Free x → x < grown s
  free_grown x f = omega (arith, f.2, free_below s numbered f.0 f.1)

  pub none_in_both : (x : ℕ) → Live x → Free x → ⊥
  none_in_both x l f =
      omega (
        arith,
        numbered.slots x,
        one_le (ltb x (grown s)) true (λ _. refl),
        count_at (λ r. eqb x r.slot) s.dense l.0 no_rec l.1 (eq-eqb x _ (sym l.2)),
        count_at (eqb x) s.free f.0 0 f.1 (eq-eqb x _ (sym f.2)),
      )

  -- ---- no slot is past buffers that have room for the slots grown
  pub slots_fit : (n : ℕ) → n ≤ 256 → grown s ≤ n * (n - 1) → (x : ℕ) → Live x ⊎ Free x → (x < n * (n - 1)) × (x < none)
  slots_fit n small room x l =
      let h : x < grown s = both l (live_grown x) (free_grown x) in
      (omega (arith, h), omega (arith, h, cap_small small))

-- a push among fewer than m records takes a slot below m, and grows none past it
pub push_fits : (m : ℕ) (a b : Edge) (s : Store) → Numbered s → length s.dense < m → grown s ≤ m → (slot_for s.free (length s.dense) < m) × (grown (push a b s) ≤ m)
push_fits m a b s numbered few room =
    (slot s.free refl, omega (arith, (push_if_grows true a b s).most, length_snoc s.dense (rec_for a b s.pushes (slot_for s.free (length s.dense)))))
  where
    slot : (l : List ℕ) → s.free ≡ l → slot_for s.free (length s.dense) < m
    slot [] q = rw q few
    slot (x ∷ l) q = rw q (omega (arith, ap (λ (f : List ℕ). get_or f 0 0) q, free_below s numbered 0 (omega (arith, ap length q))))

-- ---- an edge's list holds exactly the live records that name it
module _ (e : Edge) (d : List Rec) where
  pub named_in_list : (j : ℕ) → j < length d → names e (get_or d j no_rec) ≡ true → (i : ℕ) × (i < length (list_of e d)) × (get_or (list_of e d) i no_rec ≡ get_or d j no_rec)
  named_in_list j h named =
      let r : Rec = get_or d j no_rec in
      let z : (i : ℕ) × (i < length (list_of e d)) × (eq_record r (get_or (list_of e d) i no_rec) ≡ true)
      = count_find (eq_record r) (list_of e d) no_rec (omega (arith, list_of_count e (eq_record r) d, count_at (λ x. names e x && eq_record r x) d j no_rec h (rw (named, eq_record_refl r)))) in
      (z.0, z.1, sym (eq_record_true r _ z.2))

  pub listed_is_live : (i : ℕ) → i < length (list_of e d) → (j : ℕ) × (j < length d) × (get_or d j no_rec ≡ get_or (list_of e d) i no_rec) × (names e (get_or d j no_rec) ≡ true)
  listed_is_live i h =
      let r : Rec = get_or (list_of e d) i no_rec in
      let z : (j : ℕ) × (j < length d) × ((names e (get_or d j no_rec) && eq_record r (get_or d j no_rec)) ≡ true)
      = count_find (λ x. names e x && eq_record r x) d no_rec (omega (arith, list_of_count e (eq_record r) d, count_at (eq_record r) (list_of e d) i no_rec h (eq_record_refl r))) in
      (z.0, z.1, sym (eq_record_true r _ (and_right (names e (get_or d z.0 no_rec)) _ z.2)), and_left (names e (get_or d z.0 no_rec)) _ z.2)

  -- as often as it is there
  pub list_length : length (list_of e d) ≡ count_p (names e) d
  list_length = sym (count_length (list_of e d)) ∙ list_of_count e (λ _. true) d ∙ same d
    where
      same : (d : List Rec) → count_p (λ r. names e r && true) d ≡ count_p (names e) d
      same d = omega (arith, count_le (λ r. names e r && true) (names e) (λ r. and_left (names e r) true) d, count_le (names e) (λ r. names e r && true) (λ r u. rw u) d)

-- ---- removing all of an edge ends, since the live count falls; and it leaves none
pub removal_falls : (e : Edge) (s : Store) → newest_from e 0 s.dense ≢ nothing → suc (length (remove_found (newest_from e 0 s.dense) s).dense) ≡ length s.dense
removal_falls e s = go (newest_from e 0 s.dense) (newest_is e 0 s.dense)
  where
    go : (f : Found) → Newest e 0 s.dense f → f ≢ nothing → suc (length (remove_found f s).dense) ≡ length s.dense
    go nothing t some = absurd (some refl)
    go (at_place k r) t some = swap_remove_length s.dense k (omega arith)

pub none_left : (e : Edge) (s : Store) → list_of e (remove_all e s).dense ≡ []
none_left e s = nil_from_length (list_of e (remove_all e s).dense) (list_length e (remove_all e s).dense ∙ remove_all_none e s)
