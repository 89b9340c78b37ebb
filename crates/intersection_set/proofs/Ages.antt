-- The ages in the buffers: along the links they strictly fall, no two live records share one, and of two the greater was pushed later.
use mathlib.Core.Path.{◌≡◌, refl, sym, ap, ◌∙◌}
use mathlib.Core.Logic.{◌≢◌}
use mathlib.Core.Bool.{Bool, true, false}
use mathlib.Core.List.{List, [], ◌∷◌, map}
use Prim.Native.Nat.{ℕ, suc, ◌<◌}
use native.Mathlib.Omega.{arith}
use borrow.Author.Tests.{eqb-true, leb-false}
use lib.Dec.{eqb, leb}
use lib.ListN.{length, get_or}
use Rattle.algebra.specs.Cases.{both, true_or_false}
use Rattle.algebra.specs.Counting.{one}
use Rattle.index_edge.specs.Edge.{Edge}
use Rattle.index_edge.proofs.Edges.{eq_edge_refl}
use Rattle.intersection_set.specs.Store.{Rec, Store, no_rec, names}
use Rattle.intersection_set.specs.Numbered.{Numbered}
use Rattle.intersection_set.specs.Lists.{none, slot_of, list_of, first_or, after, next_of}
use Rattle.intersection_set.specs.Pool.{Buffers, Ends, no_ends, links_of}
use Rattle.intersection_set.specs.Holds.{Each, AgedIn, Shows}
use Rattle.intersection_set.proofs.Slots.{age_below}
use Rattle.intersection_set.proofs.Chains.{Falling, names_first, names_second}
use Rattle.intersection_set.proofs.ReadOff.{In}
use Rattle.intersection_set.proofs.Holding.{slot_in_list}
use Rattle.intersection_set.proofs.Pushing.{new_rec}
use Rattle.intersection_set.proofs.StoreFacts.{ages_differ, ages_fall, listed_is_live}

-- The record with the greater age was pushed later: a push's age is past all that live.
pub push_newest : (a b : Edge) (s : Store) → Numbered s → (j : ℕ) → j < length s.dense → (get_or s.dense j no_rec).age < (new_rec a b s).age
push_newest a b s numbered j i = age_below s numbered j i

-- ---- along a falling list
fall_next : (a : List ℕ) (l : List Rec) → Falling l → Each (AgedIn a) l → (x : ℕ) → In x (map slot_of l) → after none x (map slot_of l) ≢ none
    → get_or a (after none x (map slot_of l)) 0 < get_or a x 0
fall_next a [] f h x i u = absurd (omega arith)
fall_next a (r ∷ l) f h x i u =
    both (true_or_false (eqb x r.slot))
    (λ t. rw t (here l (eqb-true x r.slot t) f h (rw t at u)))
    (λ t. rw t (fall_next a l f.1 (λ j k. h (suc j) (omega arith)) x (omega (arith, i, ap one t)) (rw t at u)))
  where
    older : (b : Bool) (y z : ℕ) → leb y z ≡ b → one b ≡ 0 → z < y
    older true y z e o = absurd (omega arith)
    older false y z e o = leb-false y z e

    here : (l : List Rec) → x ≡ r.slot → Falling (r ∷ l) → Each (AgedIn a) (r ∷ l) → first_or none (map slot_of l) ≢ none
        → get_or a (first_or none (map slot_of l)) 0 < get_or a x 0
    here [] e f h u = absurd (u refl)
    here (y ∷ l) e f h u =
        let p : get_or a r.slot 0 ≡ r.age = h 0 (omega arith) in
        let q : get_or a y.slot 0 ≡ y.age = h 1 (omega arith) in
        let o : y.age < r.age = older (leb r.age y.age) r.age y.age refl (omega (arith, f.0)) in
        let z : get_or a x 0 ≡ get_or a r.slot 0 = ap (λ (k : ℕ). get_or a k 0) e in
        omega (arith, p, q, o, z)

-- ---- what a reader of the buffers sees
-- by the links along the records' first edges, or along their second, the next record is older
abbrev pub OlderNext : (Ends → ℕ) → Buffers → Store → Type 0
OlderNext side b s =
    (j : ℕ) → j < length s.dense
    → let x = (get_or s.dense j no_rec).slot in let y = side (get_or (links_of b.heads b.links).next x no_ends) in y ≢ none → get_or b.ages y 0 < get_or b.ages x 0

-- no two live slots hold the same
abbrev pub OwnAges : Buffers → Store → Type 0
OwnAges b s = (j k : ℕ) → j < k → k < length s.dense → get_or b.ages (get_or s.dense j no_rec).slot 0 ≢ get_or b.ages (get_or s.dense k no_rec).slot 0

module _ (n : ℕ) (b : Buffers) (s : Store) (numbered : Numbered s) (z : Shows n b s) where
  listed : (e : Edge) → Each (AgedIn b.ages) (list_of e s.dense)
  listed e i h = let (j, k, q, _) = listed_is_live e s.dense i h in rw (← q) (z.ages j k)

  -- the slot next to that of the live record j in the list of e, which it names, and which the buffers have as y
  next_older : (e : Edge) (j : ℕ) → j < length s.dense → names e (get_or s.dense j no_rec) ≡ true → let x = (get_or s.dense j no_rec).slot in (y : ℕ) → y ≡ next_of e x s → y ≢ none
      → get_or b.ages y 0 < get_or b.ages x 0
  next_older e j i named y q u =
      rw q (fall_next b.ages (list_of e s.dense) (ages_fall s numbered e) (listed e) (get_or s.dense j no_rec).slot (slot_in_list s e j i named) (λ w. u (q ∙ w)))

  -- Along each edge's list, by the links, ages strictly fall: from a record to the next along its first edge ..
  pub ages_fall_first : OlderNext (λ k. k.x0) b s
  ages_fall_first j i = let r : Rec = get_or s.dense j no_rec in next_older r.e0 j i (names_first r.e0 r (eq_edge_refl r.e0)) _ (z.linked j i).next0

  -- .. and along its second
  pub ages_fall_second : OlderNext (λ k. k.x1) b s
  ages_fall_second j i = let r : Rec = get_or s.dense j no_rec in next_older r.e1 j i (names_second r.e1 r (eq_edge_refl r.e1)) _ (z.linked j i).next1

  -- no two live records share an age
  pub live_ages_differ : OwnAges b s
  live_ages_differ j k i h e = ages_differ s numbered j k i h (sym (z.ages j (omega arith)) ∙ e ∙ z.ages k h)
