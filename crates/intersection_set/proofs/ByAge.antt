-- An edge's list by computation: the records that name it, sorted by falling age. A chain is that list, so heads and links are given by the dense list.
use mathlib.Core.Path.{◌≡◌, refl, sym, ap, subst, ◌∙◌}
use mathlib.Core.Bool.{Bool, true, false, ◌&&◌, cond}
use mathlib.Core.List.{List, [], ◌∷◌, map}
use Prim.Native.Nat.{ℕ, ◌+◌, ◌≤◌, ◌<◌}
use native.Mathlib.Omega.{arith}
use borrow.Author.Tests.{ltb-true, ltb-false, leb-true, leb-false, le-leb, lt-leb, eq-eqb}
use lib.Dec.{eqb, leb, ltb}
use Rattle.algebra.specs.Counting.{one, count_p, one_le, count_le}
use Rattle.index_edge.specs.Edge.{Edge}
use Rattle.intersection_set.specs.Store.{Rec, Store, names}
pub use Rattle.intersection_set.specs.Lists.{insert, list_of}
use Rattle.algebra.specs.Cases.{both, true_or_false, and_right}
use Rattle.intersection_set.proofs.Slots.{Numbered}
use Rattle.intersection_set.proofs.Linked.{Linked}
use Rattle.intersection_set.proofs.Chains.{Links, Chain, Falling, slot_of, eq_record, eq_record_refl, eq_record_true}

insert_count : (p : Rec → Bool) (r : Rec) (l : List Rec) → count_p p (insert r l) ≡ one (p r) + count_p p l
insert_count p r [] = refl
insert_count p r (y ∷ l) = go (ltb y.age r.age) (insert_count p r l)
  where
    go : (b : Bool) → count_p p (insert r l) ≡ one (p r) + count_p p l → count_p p (cond b (r ∷ y ∷ l) (y ∷ insert r l)) ≡ one (p r) + (one (p y) + count_p p l)
    go true h = refl
    go false h = omega arith

pub list_of_count : (e : Edge) (p : Rec → Bool) (d : List Rec) → count_p p (list_of e d) ≡ count_p (λ r. names e r && p r) d
list_of_count e p [] = refl
list_of_count e p (r ∷ d) = go (names e r) (list_of_count e p d)
  where
    go : (b : Bool) → count_p p (list_of e d) ≡ count_p (λ r. names e r && p r) d → count_p p (cond b (insert r (list_of e d)) (list_of e d)) ≡ one (b && p r) + count_p (λ r. names e r && p r) d
    go true h = insert_count p r (list_of e d) ∙ omega arith
    go false h = omega arith

-- ages fall, where no age is there twice
insert_falling : (r : Rec) (l : List Rec) → count_p (λ x. eqb r.age x.age) l ≡ 0 → Falling l → Falling (insert r l)
insert_falling r [] h f = (refl, tt)
insert_falling r (y ∷ l) h f = go (ltb y.age r.age) refl (insert_falling r l (omega arith) f.1)
  where
    go : (b : Bool) → ltb y.age r.age ≡ b → Falling (insert r l) → Falling (cond b (r ∷ y ∷ l) (y ∷ insert r l))
    go true u k =
        let q : y.age < r.age = ltb-true _ _ u in (
          omega (
            arith,
            ap one (lt-leb r.age y.age q),
            f.0,
            count_le (λ x. leb r.age x.age) (λ x. leb y.age x.age) (λ x t. le-leb y.age x.age (omega (arith, leb-true r.age x.age t))) l,
          ),
          f,
        )
    go false u k =
        let q : r.age ≤ y.age = ltb-false _ _ u in
        let d : r.age ≡ y.age → ⊥ = λ w. omega (arith, h, ap one (eq-eqb r.age y.age w)) in
        (omega (arith, insert_count (λ x. leb y.age x.age) r l, f.0, ap one (lt-leb y.age r.age (omega (arith, q, d)))), k)

pub list_of_falling : (e : Edge) (d : List Rec) → ((a : ℕ) → count_p (λ r. eqb a r.age) d ≤ 1) → Falling (list_of e d)
list_of_falling e [] h = tt
list_of_falling e (r ∷ d) h = go (names e r) (list_of_falling e d (λ a. omega (arith, h a)))
  where
    fresh : count_p (λ x. eqb r.age x.age) (list_of e d) ≡ 0
    fresh =
        omega (
          arith,
          h r.age,
          ap one (eq-eqb r.age r.age refl),
          list_of_count e (λ x. eqb r.age x.age) d,
          count_le (λ x. names e x && eqb r.age x.age) (λ x. eqb r.age x.age) (λ x. and_right (names e x) (eqb r.age x.age)) d,
        )

    go : (b : Bool) → Falling (list_of e d) → Falling (cond b (insert r (list_of e d)) (list_of e d))
    go true f = insert_falling r (list_of e d) fresh f
    go false f = f

-- two falling lists of the same records are one
later_age : (r y : Rec) (l : List Rec) → 1 ≤ count_p (eq_record r) l → count_p (λ x. leb y.age x.age) l ≡ 0 → r.age < y.age
later_age r y l h f =
    both (true_or_false (leb y.age r.age))
    (λ v. absurd (omega (arith, h, f, count_le (eq_record r) (λ x. leb y.age x.age) (λ x w. ap (λ (q : Rec). leb y.age q.age) (sym (eq_record_true r x w)) ∙ v) l)))
    (λ v. leb-false y.age r.age v)

pub falling_unique : (l l' : List Rec) → Falling l → Falling l' → ((p : Rec → Bool) → count_p p l ≡ count_p p l') → l ≡ l'
falling_unique [] [] f f' h = refl
falling_unique [] (y ∷ l') f f' h = absurd (omega (arith, h (λ _. true)))
falling_unique (r ∷ l) [] f f' h = absurd (omega (arith, h (λ _. true)))
falling_unique (r ∷ l) (y ∷ l') f f' h =
    let e : r ≡ y
    = both (true_or_false (eq_record r y)) (eq_record_true r y)
    (λ u.
    both (true_or_false (eq_record y r)) (λ v. sym (eq_record_true y r v))
    (λ v.
    absurd
    (omega (
      arith,
      later_age r y l' (omega (arith, h (eq_record r), ap one u, ap one (eq_record_refl r))) f'.0,
      later_age y r l (omega (arith, h (eq_record y), ap one v, ap one (eq_record_refl y))) f.0,
    )))) in
    let t : l ≡ l' = falling_unique l l' f.1 f'.1 (λ p. omega (arith, h p, ap (λ (x : Rec). one (p x)) e)) in
    λ i. e i ∷ t i

pub chain_is : (none : ℕ) (s : Store) (k : Links) (e : Edge) → Numbered s → (c : Chain none s.dense k e) → c.recs ≡ list_of e s.dense
chain_is none s k e pool c =
    falling_unique c.recs (list_of e s.dense) c.falling
    (list_of_falling e s.dense (λ a. omega (arith, pool.ages a, one_le (ltb a s.pushes) true (λ _. refl))))
    (λ p. c.same p ∙ sym (list_of_count e p s.dense))

-- the list that the links make is the computed one
pub linked_is : (none : ℕ) (s : Store) (k : Links) (e : Edge) → Numbered s → Chain none s.dense k e → Linked none (k.next e) (k.prev e) none (k.head e) (map slot_of (list_of e s.dense))
linked_is none s k e pool c = subst (λ (l : List Rec). Linked none (k.next e) (k.prev e) none (k.head e) (map slot_of l)) (chain_is none s k e pool c) c.linked

pub chain_of : (none : ℕ) (s : Store) (k : Links) (e : Edge) → Numbered s → Linked none (k.next e) (k.prev e) none (k.head e) (map slot_of (list_of e s.dense)) → Chain none s.dense k e
chain_of none s k e pool l =
    record {
      recs = list_of e s.dense;
      same = λ p. list_of_count e p s.dense;
      falling = list_of_falling e s.dense (λ a. omega (arith, pool.ages a, one_le (ltb a s.pushes) true (λ _. refl)));
      linked = l;
    }
