-- What a push and a removal do to the number of records that pass a test.
use mathlib.Core.Path.{◌≡◌, refl, sym, ap, subst, ◌∙◌}
use mathlib.Core.Bool.{Bool, true, false, not, ◌&&◌, ◌||◌, cond, and-true, and-false}
use mathlib.Core.List.{List, [], ◌∷◌}
use Prim.Native.Nat.{ℕ, zero, suc, ◌+◌, ◌-◌, ◌≤◌, ◌<◌}
use native.Mathlib.Omega.{arith}
use borrow.Author.Tests.{ltb-true, eqb-true, eqb-false, lt-ltb, le-ltb}
use lib.Dec.{eqb, ltb}
use lib.ListN.{length, get_or, set, length-set}
use lib.Seq.{get_or-set_same, get_or-set_other}
use Rattle.index_edge.proofs.Edges.{eq_edge_sym, at_edge, at_pair}
use Rattle.algebra.specs.Counting.{one, count_p, count_same, count_length, count_none, count_set, count_front, count_le, count_split}
use Rattle.index_edge.specs.Edge.{Edge, eq_edge, edge_in}
use Rattle.intersection_set.specs.Store.{Rec, Store, names, Found, nothing, at_place, newer, newest_from, no_rec, swap_remove, remove_found, remove_all_fuel, remove_all, removes, counted}
use Rattle.algebra.specs.Cases.{both, true_or_false, and_left, and_right}

-- ---- one record taken out
last_set : (l : List Rec) (k j : ℕ) → j < length l → get_or (set l k (get_or l j no_rec)) j no_rec ≡ get_or l j no_rec
last_set l k j h =
    both (true_or_false (eqb j k))
    (λ p. let q : j ≡ k = eqb-true j k p in subst (λ (x : ℕ). get_or (set l x (get_or l j no_rec)) j no_rec ≡ get_or l j no_rec) q (get_or-set_same l j (get_or l j no_rec) no_rec h))
    (λ p. get_or-set_other l k j (get_or l j no_rec) no_rec (eqb-false j k p))

pub count_swap : (p : Rec → Bool) (l : List Rec) (k : ℕ) → k < length l → count_p p (swap_remove l k) + one (p (get_or l k no_rec)) ≡ count_p p l
count_swap p l k h =
    let j : ℕ = length l - 1 in
    let v : Rec = get_or l j no_rec in
    let i : j < length l = omega arith in
    let n : length (set l k v) ≡ suc j = length-set l k v ∙ omega arith in
    omega (arith, count_set p l k v no_rec h, count_front p (set l k v) j no_rec n, ap (λ (x : Rec). one (p x)) (last_set l k j i))

-- ---- the newest record that names e
pub record NewestAt (e : Edge) (i : ℕ) (l : List Rec) (k : ℕ) (r : Rec) : Type 0 where
  pub place : ℕ
  pub is_place : k ≡ i + place
  pub inside : place < length l
  pub there : get_or l place no_rec ≡ r
  pub named : names e r ≡ true
  pub newest : count_p (λ x. names e x && ltb r.age x.age) l ≡ 0

abbrev pub Newest : Edge → ℕ → List Rec → Found → Type 0
Newest e i l nothing = count_p (names e) l ≡ 0
Newest e i l (at_place k r) = NewestAt e i l k r

none_newer : (b : Bool) (a : ℕ) → one (b && ltb a a) ≡ 0
none_newer true a = ap one (le-ltb a a (omega arith))
none_newer false a = refl

pub and_none : (a b : Bool) → a ≡ false → one (a && b) ≡ 0
and_none a b h = rw h

pub newest_is : (e : Edge) (i : ℕ) (l : List Rec) → Newest e i l (newest_from e i l)
newest_is e i [] = refl
newest_is e i (r ∷ l) = go (names e r) refl (newest_from e (suc i) l) (newest_is e (suc i) l)
  where
    up : (b q : Rec) → q.age ≤ b.age → count_p (λ x. names e x && ltb b.age x.age) l ≤ count_p (λ x. names e x && ltb q.age x.age) l
    up b q h =
        count_le _ _
        (λ x t.
        let u : names e x ≡ true = and_left (names e x) (ltb b.age x.age) t in
        let v : b.age < x.age = ltb-true b.age x.age (and_right (names e x) (ltb b.age x.age) t) in
        rw (u, lt-ltb q.age x.age (omega arith)))
        l

    keep : (j : ℕ) (q : Rec) → NewestAt e (suc i) l j q → one (names e r && ltb q.age r.age) ≡ 0 → NewestAt e i (r ∷ l) j q
    keep j q t z =
        record { place = suc t.place; is_place = omega arith; inside = omega arith; there = t.there; named = t.named; newest = omega arith }

    choose : (b : Bool) → names e r ≡ true → (j : ℕ) (q : Rec) → NewestAt e (suc i) l j q → ltb q.age r.age ≡ b → Newest e i (r ∷ l) (cond b (at_place i r) (at_place j q))
    choose true h j q t p =
        record { place = 0; is_place = omega arith; inside = omega arith; there = refl; named = h; newest = omega (arith, none_newer (names e r) r.age, up r q (omega (arith, ltb-true q.age r.age p))) }
    choose false h j q t p = keep j q t (rw (h, p))

    go : (b : Bool) → names e r ≡ b → (f : Found) → Newest e (suc i) l f → Newest e i (r ∷ l) (cond b (newer i r f) f)
    go true h nothing t =
        record { place = 0; is_place = omega arith; inside = omega arith; there = refl; named = h; newest = omega (arith, none_newer (names e r) r.age, count_le (λ x. names e x && ltb r.age x.age) (names e) (λ x. and_left (names e x) (ltb r.age x.age)) l) }
    go true h (at_place j q) t = choose (ltb q.age r.age) h j q t refl
    go false h nothing t = omega (arith, ap one h)
    go false h (at_place j q) t = keep j q t (and_none (names e r) (ltb q.age r.age) h)

-- ---- all the records of an edge taken out
named_spared : (a b : Bool) → b ≡ true → one (a && not b) ≡ 0
named_spared true b h = rw h
named_spared false b h = refl

-- a removal of a record that names e leaves those that do not
pub remove_found_count : (e : Edge) (s : Store) (p : Rec → Bool)
    → count_p (λ r. p r && not (names e r)) (remove_found (newest_from e 0 s.dense) s).dense ≡ count_p (λ r. p r && not (names e r)) s.dense
remove_found_count e s p = go (newest_from e 0 s.dense) (newest_is e 0 s.dense)
  where
    go : (f : Found) → Newest e 0 s.dense f → count_p (λ r. p r && not (names e r)) (remove_found f s).dense ≡ count_p (λ r. p r && not (names e r)) s.dense
    go nothing t = refl
    go (at_place k r) t =
        let q : k ≡ t.place = omega arith in
        let z : get_or s.dense k no_rec ≡ r = rw q t.there in
        omega (arith, count_swap (λ r. p r && not (names e r)) s.dense k (omega arith), ap (λ (x : Rec). one (p x && not (names e x))) z, named_spared (p r) (names e r) t.named)

-- and one fewer that names e, if there was one
pub remove_found_named : (e : Edge) (s : Store) → count_p (names e) (remove_found (newest_from e 0 s.dense) s).dense ≡ count_p (names e) s.dense - 1
remove_found_named e s = go (newest_from e 0 s.dense) (newest_is e 0 s.dense)
  where
    go : (f : Found) → Newest e 0 s.dense f → count_p (names e) (remove_found f s).dense ≡ count_p (names e) s.dense - 1
    go nothing t = omega arith
    go (at_place k r) t =
        let q : k ≡ t.place = omega arith in
        let z : get_or s.dense k no_rec ≡ r = rw q t.there in
        omega (arith, count_swap (names e) s.dense k (omega arith), ap (λ (x : Rec). one (names e x)) z, ap one t.named)

fuel_count : (k : ℕ) (e : Edge) (s : Store) (p : Rec → Bool)
    → count_p (λ r. p r && not (names e r)) (remove_all_fuel k e s).dense ≡ count_p (λ r. p r && not (names e r)) s.dense
fuel_count zero e s p = refl
fuel_count (suc k) e s p = fuel_count k e (remove_found (newest_from e 0 s.dense) s) p ∙ remove_found_count e s p

pub fuel_named : (k : ℕ) (e : Edge) (s : Store) → count_p (names e) (remove_all_fuel k e s).dense ≡ count_p (names e) s.dense - k
fuel_named zero e s = omega arith
fuel_named (suc k) e s = fuel_named k e (remove_found (newest_from e 0 s.dense) s) ∙ omega (arith, remove_found_named e s)

pub remove_all_none : (e : Edge) (s : Store) → count_p (names e) (remove_all e s).dense ≡ 0
remove_all_none e s =
    omega (arith, fuel_named (length s.dense) e s, count_le (names e) (λ x. true) (λ x h. refl) s.dense, count_length s.dense)

-- after it, a test counts what it counted of the records that do not name e
pub remove_all_count : (e : Edge) (s : Store) (p : Rec → Bool) → count_p p (remove_all e s).dense ≡ count_p (λ r. p r && not (names e r)) s.dense
remove_all_count e s p =
    let d : List Rec = (remove_all e s).dense in
    omega (arith, count_split p (names e) d, fuel_count (length s.dense) e s p, remove_all_none e s, count_le (λ x. p x && names e x) (names e) (λ x. and_right (p x) (names e x)) d)

-- ---- all the records of some edges taken out
any_of : (p a b c d : Bool) → ((p && not (c || d)) && not (a || b)) ≡ (p && not ((a || c) || (b || d)))
any_of false a b c d = refl
any_of true true b true d = refl
any_of true true b false true = refl
any_of true true b false false = refl
any_of true false true true d = refl
any_of true false true false true = refl
any_of true false true false false = refl
any_of true false false true d = refl
any_of true false false false true = refl
any_of true false false false false = refl

pub removes_count : (l : List Edge) (s : Store) (p : Rec → Bool)
    → count_p p (removes l s).dense ≡ count_p (λ r. p r && not (edge_in r.e0 l || edge_in r.e1 l)) s.dense
removes_count [] s p = count_same p (λ r. p r && true) (λ r. sym (and-true (p r))) s.dense
removes_count (e ∷ l) s p =
    removes_count l (remove_all e s) p
    ∙ remove_all_count e s (λ r. p r && not (edge_in r.e0 l || edge_in r.e1 l))
    ∙ count_same _ _
    (λ r. any_of (p r) (eq_edge e r.e0) (eq_edge e r.e1) (edge_in r.e0 l) (edge_in r.e1 l) ∙ rw (eq_edge_sym e r.e0, eq_edge_sym e r.e1))
    s.dense

-- ---- the pairs counted
abbrev pub is_pair : Edge → Edge → Rec → Bool
is_pair a b r = eq_edge a r.e0 && eq_edge b r.e1

cond_one : (b : Bool) (x : ℕ) → cond b (suc x) x ≡ one b + x
cond_one true x = omega arith
cond_one false x = omega arith

pub counted_is : (a b : Edge) (l : List Rec) → counted a b l ≡ count_p (is_pair a b) l
counted_is a b [] = refl
counted_is a b (r ∷ l) = cond_one (is_pair a b r) (counted a b l) ∙ omega (arith, counted_is a b l)

pub count_and_const : {A : Type 0} (p : A → Bool) (c : Bool) (l : List A) → count_p (λ x. p x && c) l ≡ cond c (count_p p l) 0
count_and_const p true l = count_same _ p (λ x. and-true (p x)) l
count_and_const p false l = count_same _ (λ x. false) (λ x. and-false (p x)) l ∙ count_none l

pub counted_removes : (a b : Edge) (l : List Edge) (s : Store)
    → counted a b (removes l s).dense ≡ cond (not (edge_in a l || edge_in b l)) (counted a b s.dense) 0
counted_removes a b l s =
    rw (counted_is a b (removes l s).dense, counted_is a b s.dense)
    (removes_count l s (is_pair a b)
    ∙ count_same _ (λ r. is_pair a b r && not (edge_in a l || edge_in b l)) (λ r. at_pair a b r.e0 r.e1 (λ x y. not (edge_in x l || edge_in y l))) s.dense
    ∙ count_and_const (is_pair a b) (not (edge_in a l || edge_in b l)) s.dense)

-- ---- lists of edges without repetition
abbrev pub Once : List Edge → Type 0
Once l = (e : Edge) → count_p (eq_edge e) l ≤ 1

occ : (a : Edge) (l : List Edge) → count_p (eq_edge a) l ≤ 1 → count_p (eq_edge a) l ≡ one (edge_in a l)
occ a [] h = refl
occ a (f ∷ l) h = go (eq_edge a f) h (occ a l)
  where
    go : (b : Bool) → one b + count_p (eq_edge a) l ≤ 1 → (count_p (eq_edge a) l ≤ 1 → count_p (eq_edge a) l ≡ one (edge_in a l)) → one b + count_p (eq_edge a) l ≡ one (b || edge_in a l)
    go true h k = omega arith
    go false h k = omega (arith, k (omega arith))

one_and : (b c : Bool) → cond c (one b) 0 ≡ one (b && c)
one_and true true = refl
one_and true false = refl
one_and false true = refl
one_and false false = refl

pub occ_and : (a : Edge) (q : Edge → Bool) (l : List Edge) → Once l → count_p (λ x. eq_edge a x && q x) l ≡ one (edge_in a l && q a)
occ_and a q l h =
    count_same _ (λ x. eq_edge a x && q a) (λ x. at_edge a x q) l
    ∙ count_and_const (eq_edge a) (q a) l
    ∙ ap (λ (x : ℕ). cond (q a) x 0) (occ a l (h a))
    ∙ one_and (edge_in a l) (q a)
