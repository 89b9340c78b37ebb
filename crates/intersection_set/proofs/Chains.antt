-- The lists of the edges: for each edge in play a doubly linked list of slots, the slots of the live records that name it, by falling age.
use mathlib.Core.Path.{◌≡◌, refl, sym, ap, subst, ◌∙◌}
use mathlib.Core.Logic.{◌≢◌}
use mathlib.Core.Bool.{Bool, true, false, ◌&&◌, cond, and-true, or-true}
use mathlib.Core.List.{List, [], ◌∷◌, ◌++◌, map}
use Prim.Native.Nat.{ℕ, ◌≤◌, ◌<◌}
use native.Mathlib.Omega.{arith}
use borrow.Author.Tests.{leb-false, eqb-true, lt-ltb, le-ltb, lt-leb, eq-eqb, ne_eqb}
use lib.Dec.{eqb, leb, ltb}
use lib.ListN.{length, get_or}
use Rattle.algebra.specs.Counting.{one, count_p, one_le, count_append, count_snoc, count_same, count_le, count_at, count_split_at, count_zero, count_map}
use Rattle.index_edge.specs.Edge.{Edge, eq_edge, lt_edge}
use Rattle.intersection_set.specs.Store.{Rec, Store, Found, nothing, at_place, no_rec, push, rec_for, slot_for, swap_remove, newest_from, remove_found, names, grown}
pub use Rattle.intersection_set.specs.Lists.{slot_of}
use Rattle.algebra.specs.Cases.{and_left, and_right, both, true_or_false}
use Rattle.index_edge.proofs.Edges.{eq_edge_true, eq_edge_refl, eq_edge_sym}
use Rattle.intersection_set.proofs.Records.{count_swap, NewestAt, Newest, newest_is, and_none}
use Rattle.intersection_set.proofs.Slots.{Numbered, numbered_kept, age_below}
use Rattle.intersection_set.proofs.Linked.{Absent, OnceN, Linked, linked_agree, linked_front, linked_unlink}

-- each age is below those before it
abbrev pub Falling : List Rec → Type 0
Falling [] = Unit {0}
Falling (r ∷ l) = (count_p (λ x. leb r.age x.age) l ≡ 0) × Falling l

pub record Links : Type 0 where
  pub head : Edge → ℕ
  pub next : Edge → ℕ → ℕ
  pub prev : Edge → ℕ → ℕ

pub record Chain (none : ℕ) (d : List Rec) (k : Links) (e : Edge) : Type 0 where
  pub recs : List Rec
  pub same : (p : Rec → Bool) → count_p p recs ≡ count_p (λ r. names e r && p r) d
  pub falling : Falling recs
  pub linked : Linked none (k.next e) (k.prev e) none (k.head e) (map slot_of recs)

-- ---- the slots of a chain
module _ (none : ℕ) (s : Store) (k : Links) (e : Edge) (pool : Numbered s) (room : grown s ≤ none) (c : Chain none s.dense k e) where
  slot_count : (y : ℕ) → count_p (eqb y) (map slot_of c.recs) ≤ one (ltb y (grown s))
  slot_count y =
      omega (
        arith,
        count_map (eqb y) slot_of c.recs,
        c.same (λ r. eqb y r.slot),
        count_le (λ r. names e r && eqb y r.slot) (λ r. eqb y r.slot) (λ r. and_right (names e r) (eqb y r.slot)) s.dense,
        pool.slots y,
      )

  slots_once : OnceN (map slot_of c.recs)
  slots_once y = omega (arith, slot_count y, one_le (ltb y (grown s)) true (λ _. refl))

  none_absent : Absent none (map slot_of c.recs)
  none_absent = omega (arith, slot_count none, ap one (le-ltb none (grown s) room))

  ages_fall : count_p (λ x. leb s.pushes x.age) c.recs ≡ 0
  ages_fall =
      omega (
        arith,
        c.same (λ x. leb s.pushes x.age),
        count_le (λ r. names e r && leb s.pushes r.age) (λ r. leb s.pushes r.age) (λ r. and_right (names e r) (leb s.pushes r.age)) s.dense,
        count_zero (λ r. leb s.pushes r.age) s.dense no_rec (λ j u. lt-leb s.pushes _ (age_below s pool j u)),
      )

-- ---- the links after a push in front of e's list: x the slot
abbrev pub upd : Edge → ℕ → ℕ → (Edge → ℕ → ℕ) → Edge → ℕ → ℕ
upd e x v g f y = cond (eq_edge f e && eqb y x) v (g f y)

abbrev pub upd_head : Edge → ℕ → (Edge → ℕ) → Edge → ℕ
upd_head e v g f = cond (eq_edge f e) v (g f)

abbrev pub front : ℕ → Edge → ℕ → Links → Links
front none e x k =
    record {
      head = upd_head e x k.head;
      next = upd e x (k.head e) k.next;
      prev = upd e x none (cond (eqb (k.head e) none) k.prev (upd e (k.head e) x k.prev));
    }

abbrev pub unlink : ℕ → Edge → ℕ → Links → Links
unlink none e x k =
    record {
      head = cond (eqb (k.prev e x) none) (upd_head e (k.next e x) k.head) k.head;
      next = cond (eqb (k.prev e x) none) k.next (upd e (k.prev e x) (k.next e x) k.next);
      prev = cond (eqb (k.next e x) none) k.prev (upd e (k.next e x) (k.prev e x) k.prev);
    }

upd_same : (e : Edge) (x v : ℕ) (g : Edge → ℕ → ℕ) → upd e x v g e x ≡ v
upd_same e x v g = rw (eq_edge_refl e, eq-eqb x x refl)

upd_other : (e : Edge) (x v : ℕ) (g : Edge → ℕ → ℕ) (y : ℕ) → y ≢ x → upd e x v g e y ≡ g e y
upd_other e x v g y h = rw (eq_edge_refl e, ne_eqb y x h)

pub upd_edge : (e : Edge) (x v : ℕ) (g : Edge → ℕ → ℕ) (f : Edge) (y : ℕ) → eq_edge f e ≡ false → upd e x v g f y ≡ g f y
upd_edge e x v g f y h = rw h

upd_head_same : (e : Edge) (v : ℕ) (g : Edge → ℕ) → upd_head e v g e ≡ v
upd_head_same e v g = rw (eq_edge_refl e)

-- ---- the list of another edge is not touched
module _ (none : ℕ) (d : List Rec) (k k' : Links) (g : Edge) where
  pub chain_agree : (c : Chain none d k g) → k'.head g ≡ k.head g
      → ((y : ℕ) → 1 ≤ count_p (eqb y) (map slot_of c.recs) → k'.next g y ≡ k.next g y)
      → ((y : ℕ) → 1 ≤ count_p (eqb y) (map slot_of c.recs) → k'.prev g y ≡ k.prev g y)
      → Chain none d k' g
  chain_agree c h n p =
      record {
        recs = c.recs;
        same = c.same;
        falling = c.falling;
        linked = rw h (linked_agree none (k.next g) (k.prev g) (k'.next g) (k'.prev g) (map slot_of c.recs) none (k.head g) n p c.linked);
      }

pub cond_fun : (b : Bool) (g h : Edge → ℕ → ℕ) (f : Edge) (y v : ℕ) → g f y ≡ v → h f y ≡ v → cond b g h f y ≡ v
cond_fun true g h f y v p q = p
cond_fun false g h f y v p q = q

cond_off : (b : Bool) (g h : Edge → ℕ → ℕ) (f : Edge) (y : ℕ) → b ≡ false → cond b g h f y ≡ h f y
cond_off b g h f y p = rw p

cond_head : (b : Bool) (g h : Edge → ℕ) (f : Edge) (v : ℕ) → g f ≡ v → h f ≡ v → cond b g h f ≡ v
cond_head true g h f v p q = p
cond_head false g h f v p q = q

pub front_other : (none : ℕ) (d : List Rec) (k : Links) (e g : Edge) (x : ℕ) → eq_edge g e ≡ false → Chain none d k g → Chain none d (front none e x k) g
front_other none d k e g x h c =
    chain_agree none d k (front none e x k) g c (rw h) (λ y _. rw h)
    (λ y _. upd_edge e x none (cond (eqb (k.head e) none) k.prev (upd e (k.head e) x k.prev)) g y h ∙ cond_fun (eqb (k.head e) none) k.prev (upd e (k.head e) x k.prev) g y (k.prev g y) refl (rw h))

pub unlink_other : (none : ℕ) (d : List Rec) (k : Links) (e g : Edge) (x : ℕ) → eq_edge g e ≡ false → Chain none d k g → Chain none d (unlink none e x k) g
unlink_other none d k e g x h c =
    chain_agree none d k (unlink none e x k) g c
    (cond_head (eqb (k.prev e x) none) (upd_head e (k.next e x) k.head) k.head g (k.head g) (rw h) refl)
    (λ y _. cond_fun (eqb (k.prev e x) none) k.next (upd e (k.prev e x) (k.next e x) k.next) g y (k.next g y) refl (rw h))
    (λ y _. cond_fun (eqb (k.next e x) none) k.prev (upd e (k.next e x) (k.prev e x) k.prev) g y (k.prev g y) refl (rw h))

-- a record that does not name g comes or goes
all_and : (a b : Bool) → a ≡ true → one (a && b) ≡ one b
all_and a b h = rw h

pub come_other : (none : ℕ) (d : List Rec) (r : Rec) (k : Links) (g : Edge) → names g r ≡ false → Chain none d k g → Chain none (d ++ (r ∷ [])) k g
come_other none d r k g h c =
    record {
      recs = c.recs;
      same = λ p. omega (arith, c.same p, count_snoc (λ x. names g x && p x) d r, and_none (names g r) (p r) h);
      falling = c.falling;
      linked = c.linked;
    }

pub go_other : (none : ℕ) (d : List Rec) (j : ℕ) (k : Links) (g : Edge) → j < length d → names g (get_or d j no_rec) ≡ false → Chain none d k g → Chain none (swap_remove d j) k g
go_other none d j k g i h c =
    record {
      recs = c.recs;
      same = λ p. omega (arith, c.same p, count_swap (λ x. names g x && p x) d j i, and_none (names g (get_or d j no_rec)) (p (get_or d j no_rec)) h);
      falling = c.falling;
      linked = c.linked;
    }

-- ---- a push in front
pub come : (none : ℕ) (s : Store) (r : Rec) (k : Links) (g : Edge) → Numbered s → grown s ≤ none → names g r ≡ true → r.age ≡ s.pushes → count_p (λ x. eqb r.slot x.slot) s.dense ≡ 0
    → Chain none s.dense k g → Chain none (s.dense ++ (r ∷ [])) (front none g r.slot k) g
come none s r k g pool room h a new c =
    let x : ℕ = r.slot in
    let hd : ℕ = k.head g in
    let k' : Links = front none g x k in
    let absent : Absent x (map slot_of c.recs)
    = omega (
      arith,
      new,
      count_map (eqb x) slot_of c.recs,
      c.same (λ y. eqb x y.slot),
      count_le (λ y. names g y && eqb x y.slot) (λ y. eqb x y.slot) (λ y. and_right (names g y) (eqb x y.slot)) s.dense,
    ) in
    let mid : Edge → ℕ → ℕ = cond (eqb hd none) k.prev (upd g hd x k.prev) in
    record {
      recs = r ∷ c.recs;
      same = λ p. omega (arith, c.same p, count_snoc (λ y. names g y && p y) s.dense r, all_and (names g r) (p r) h);
      falling = (rw a (ages_fall none s k g pool room c), c.falling);
      linked =
          rw (upd_head_same g x k.head)
          (linked_front none (k.next g) (k.prev g) (k'.next g) (k'.prev g) x hd (map slot_of c.recs)
          (slots_once none s k g pool room c)
          absent
          (none_absent none s k g pool room c)
          (upd_same g x hd k.next)
          (upd_same g x none mid)
          (λ y u. upd_other g x hd k.next y u)
          (λ u v. upd_other g x none mid hd v ∙ cond_off (eqb hd none) k.prev (upd g hd x k.prev) g hd (ne_eqb hd none u) ∙ upd_same g hd x k.prev)
          (λ y u v. upd_other g x none mid y u ∙ cond_fun (eqb hd none) k.prev (upd g hd x k.prev) g y (k.prev g y) refl (upd_other g hd x k.prev y v))
          c.linked);
    }

-- ---- a record unlinked
abbrev pub eq_record : Rec → Rec → Bool
eq_record r x = (eq_edge r.e0 x.e0 && eq_edge r.e1 x.e1) && (eqb r.age x.age && eqb r.slot x.slot)

pub eq_record_refl : (r : Rec) → eq_record r r ≡ true
eq_record_refl r = rw (eq_edge_refl r.e0, eq_edge_refl r.e1, eq-eqb r.age r.age refl, eq-eqb r.slot r.slot refl)

pub eq_record_true : (r x : Rec) → eq_record r x ≡ true → r ≡ x
eq_record_true r x h =
    let h₁ : (eq_edge r.e0 x.e0 && eq_edge r.e1 x.e1) ≡ true = and_left (eq_edge r.e0 x.e0 && eq_edge r.e1 x.e1) _ h in
    let h₂ : (eqb r.age x.age && eqb r.slot x.slot) ≡ true = and_right (eq_edge r.e0 x.e0 && eq_edge r.e1 x.e1) _ h in
    let p : r.e0 ≡ x.e0 = eq_edge_true _ _ (and_left (eq_edge r.e0 x.e0) _ h₁) in
    let q : r.e1 ≡ x.e1 = eq_edge_true _ _ (and_right (eq_edge r.e0 x.e0) _ h₁) in
    let a : r.age ≡ x.age = eqb-true _ _ (and_left (eqb r.age x.age) _ h₂) in
    let b : r.slot ≡ x.slot = eqb-true _ _ (and_right (eqb r.age x.age) _ h₂) in
    λ i. record { e0 = p i; e1 = q i; age = a i; slot = b i }

falling_out : (a : List Rec) (r : Rec) (b : List Rec) → Falling (a ++ r ∷ b) → Falling (a ++ b)
falling_out [] r b f = f.1
falling_out (x ∷ a) r b f =
    (omega (arith, f.0, count_append (λ y. leb x.age y.age) a (r ∷ b), count_append (λ y. leb x.age y.age) a b), falling_out a r b f.1)

pub map_app : (a b : List Rec) → map slot_of (a ++ b) ≡ map slot_of a ++ map slot_of b
map_app [] b = refl
map_app (x ∷ a) b = ap (λ (l : List ℕ). x.slot ∷ l) (map_app a b)

-- a live record that names g stands in g's list
pub in_chain : (none : ℕ) (d : List Rec) (k : Links) (g : Edge) (j : ℕ) → j < length d → names g (get_or d j no_rec) ≡ true → (c : Chain none d k g)
    → (a b : List Rec) × (c.recs ≡ a ++ get_or d j no_rec ∷ b)
in_chain none d k g j i h c =
    let r : Rec = get_or d j no_rec in
    let z : (a : List Rec) × (x : Rec) × (b : List Rec) × (c.recs ≡ a ++ x ∷ b) × (eq_record r x ≡ true)
    = count_split_at (eq_record r) c.recs (omega (arith, c.same (eq_record r), count_at (λ x. names g x && eq_record r x) d j no_rec i (rw (h, eq_record_refl r)))) in
    (z.0, z.2, z.3 ∙ ap (λ (x : Rec). z.0 ++ x ∷ z.2) (sym (eq_record_true r z.1 z.4)))

pub gone : (none : ℕ) (s : Store) (j : ℕ) (k : Links) (g : Edge) → Numbered s → grown s ≤ none → j < length s.dense → names g (get_or s.dense j no_rec) ≡ true
    → Chain none s.dense k g → Chain none (swap_remove s.dense j) (unlink none g (get_or s.dense j no_rec).slot k) g
gone none s j k g pool room i h c = make (in_chain none s.dense k g j i h c)
  where
    r : Rec
    r = get_or s.dense j no_rec

    x : ℕ
    x = r.slot

    k' : Links
    k' = unlink none g x k

    make : (a b : List Rec) × (c.recs ≡ a ++ get_or s.dense j no_rec ∷ b) → Chain none (swap_remove s.dense j) (unlink none g (get_or s.dense j no_rec).slot k) g
    make z =
        let a : List Rec = z.0 in
        let b : List Rec = z.1 in
        let e : map slot_of c.recs ≡ map slot_of a ++ x ∷ map slot_of b = ap (map slot_of) z.2 ∙ map_app a (r ∷ b) in
        record {
          recs = a ++ b;
          same =
              λ p. omega (
                arith,
                c.same p,
                ap (count_p p) z.2,
                count_append p a (r ∷ b),
                count_append p a b,
                count_swap (λ y. names g y && p y) s.dense j i,
                all_and (names g r) (p r) h,
              );
          falling = falling_out a r b (subst Falling z.2 c.falling);
          linked =
              rw (map_app a b)
              (linked_unlink none (k.next g) (k.prev g) (k'.next g) (k'.prev g) x (map slot_of b)
              (λ y u. cond_fun (eqb (k.prev g x) none) k.next (upd g (k.prev g x) (k.next g x) k.next) g y (k.next g y) refl (upd_other g (k.prev g x) (k.next g x) k.next y u))
              (λ u. cond_off (eqb (k.prev g x) none) k.next (upd g (k.prev g x) (k.next g x) k.next) g (k.prev g x) (ne_eqb _ none u) ∙ upd_same g (k.prev g x) (k.next g x) k.next)
              (λ y u. cond_fun (eqb (k.next g x) none) k.prev (upd g (k.next g x) (k.prev g x) k.prev) g y (k.prev g y) refl (upd_other g (k.next g x) (k.prev g x) k.prev y u))
              (λ u. cond_off (eqb (k.next g x) none) k.prev (upd g (k.next g x) (k.prev g x) k.prev) g (k.next g x) (ne_eqb _ none u) ∙ upd_same g (k.next g x) (k.prev g x) k.prev)
              (map slot_of a)
              (k.head g)
              (k'.head g)
              (subst (Absent none) e (none_absent none s k g pool room c))
              (subst OnceN e (slots_once none s k g pool room c))
              (λ u. head_on (eqb (k.prev g x) none) (eq-eqb _ none u))
              (λ u. head_off (eqb (k.prev g x) none) (ne_eqb _ none u))
              (subst (Linked none (k.next g) (k.prev g) none (k.head g)) e c.linked));
        }
      where
        head_on : (t : Bool) → t ≡ true → cond t (upd_head g (k.next g x) k.head) k.head g ≡ k.next g x
        head_on t u = rw u (upd_head_same g (k.next g x) k.head)

        head_off : (t : Bool) → t ≡ false → cond t (upd_head g (k.next g x) k.head) k.head g ≡ k.head g
        head_off t u = rw u

-- ---- the head of an edge's list is the slot of the newest record that names it
abbrev pub slot_found : ℕ → Found → ℕ
slot_found none nothing = none
slot_found none (at_place j r) = r.slot

pub head_newest : (none : ℕ) (d : List Rec) (k : Links) (e : Edge) → Chain none d k e → k.head e ≡ slot_found none (newest_from e 0 d)
head_newest none d k e c = go (newest_from e 0 d) (newest_is e 0 d) c.recs c.same c.falling c.linked
  where
    go : (f : Found) → Newest e 0 d f → (l : List Rec) → ((p : Rec → Bool) → count_p p l ≡ count_p (λ r. names e r && p r) d) → Falling l
        → Linked none (k.next e) (k.prev e) none (k.head e) (map slot_of l)
        → k.head e ≡ slot_found none f
    go nothing t [] same fall link = link
    go nothing t (y ∷ l) same fall link = absurd (omega (arith, t, same (λ _. true), count_same (λ r. names e r && true) (names e) (λ r. and-true (names e r)) d))
    go (at_place j r) t [] same fall link = absurd (omega (arith, same (eq_record r), here j r t))
      where
        here : (j : ℕ) (r : Rec) (t : NewestAt e 0 d j r) → 1 ≤ count_p (λ x. names e x && eq_record r x) d
        here j r t = count_at (λ x. names e x && eq_record r x) d t.place no_rec t.inside (rw (t.there, t.named, eq_record_refl r))
    go (at_place j r) t (y ∷ l) same fall link =
        both (true_or_false (eq_record r y))
        (λ u. link.0 ∙ ap slot_of (sym (eq_record_true r y u)))
        (λ u.
        both (true_or_false (leb y.age r.age))
        (λ v.
        absurd
        (omega (
          arith,
          same (eq_record r),
          count_at (λ x. names e x && eq_record r x) d t.place no_rec t.inside (rw (t.there, t.named, eq_record_refl r)),
          ap one u,
          fall.0,
          count_le (eq_record r) (λ x. leb y.age x.age) (λ x w. ap (λ (q : Rec). leb y.age q.age) (sym (eq_record_true r x w)) ∙ v) l,
        )))
        (λ v. absurd (omega (arith, t.newest, same (λ x. ltb r.age x.age), ap one (lt-ltb r.age y.age (leb-false y.age r.age v))))))

-- ---- a record is named by its two edges, whichever comes first
pub names_first : (g : Edge) (r : Rec) → eq_edge g r.e0 ≡ true → names g r ≡ true
names_first g r h = rw h

pub names_second : (g : Edge) (r : Rec) → eq_edge g r.e1 ≡ true → names g r ≡ true
names_second g r h = rw (h, or-true (eq_edge g r.e0))

pub either : (t : Bool) (a b : Edge) (Q : Edge → Edge → Type 0) → Q a b → Q b a → Q (cond t a b) (cond t b a)
either true a b Q p q = p
either false a b Q p q = q

-- ---- all the lists together, over the edges in play
module _ (none : ℕ) (In : Edge → Type 0) where
  abbrev pub Rep : Store → Links → Type 0
  Rep s k = (e : Edge) → In e → Chain none s.dense k e

  abbrev pub push_links : Rec → Links → Links
  push_links r k = front none r.e1 r.slot (front none r.e0 r.slot k)

  abbrev pub remove_links : Rec → Links → Links
  remove_links r k = unlink none r.e1 r.slot (unlink none r.e0 r.slot k)

  -- the three places of an edge: the record's first, its second, or neither
  three_ways : (r : Rec) (g : Edge) (Q : Edge → Type 0) → Q r.e0 → Q r.e1 → (eq_edge g r.e0 ≡ false → eq_edge g r.e1 ≡ false → Q g) → Q g
  three_ways r g Q a b f =
      both (true_or_false (eq_edge g r.e0))
      (λ u. subst Q (sym (eq_edge_true g r.e0 u)) a)
      (λ u. both (true_or_false (eq_edge g r.e1)) (λ v. subst Q (sym (eq_edge_true g r.e1 v)) b) (λ v. f u v))

  pub rep_come : (s : Store) (k : Links) (r : Rec) → eq_edge r.e0 r.e1 ≡ false → In r.e0 → In r.e1 → Numbered s → grown s ≤ none
      → r.age ≡ s.pushes → count_p (λ x. eqb r.slot x.slot) s.dense ≡ 0 → Rep s k
      → (g : Edge) → In g → Chain none (s.dense ++ (r ∷ [])) (push_links r k) g
  rep_come s k r ab ia ib pool room age new rep g ig =
      let x : ℕ = r.slot in
      let k₁ : Links = front none r.e0 x k in
      three_ways r g (Chain none (s.dense ++ (r ∷ [])) (push_links r k))
      (front_other none (s.dense ++ (r ∷ [])) k₁ r.e1 r.e0 x ab (come none s r k r.e0 pool room (names_first r.e0 r (eq_edge_refl r.e0)) age new (rep r.e0 ia)))
      (come none s r k₁ r.e1 pool room (names_second r.e1 r (eq_edge_refl r.e1)) age new (front_other none s.dense k r.e0 r.e1 x (eq_edge_sym r.e1 r.e0 ∙ ab) (rep r.e1 ib)))
      (λ u v. come_other none s.dense r (push_links r k) g (rw (u, v)) (front_other none s.dense k₁ r.e1 g x v (front_other none s.dense k r.e0 g x u (rep g ig))))

  pub rep_push : (s : Store) (k : Links) (a b : Edge) → eq_edge a b ≡ false → In a → In b → Numbered s → grown s ≤ none → Rep s k
      → Rep (push a b s) (push_links (rec_for a b s.pushes (slot_for s.free (length s.dense))) k)
  rep_push s k a b ab ia ib pool room rep =
      let r : Rec = rec_for a b s.pushes (slot_for s.free (length s.dense)) in
      let new : count_p (λ x. eqb r.slot x.slot) s.dense ≡ 0
      = omega (
        arith,
        (numbered_kept.on_push a b s pool).slots r.slot,
        count_snoc (λ x. eqb r.slot x.slot) s.dense r,
        ap one (eq-eqb r.slot r.slot refl),
        one_le (ltb r.slot (grown (push a b s))) true (λ _. refl),
      ) in
      rep_come s k r (either (lt_edge a b) a b (λ x y. eq_edge x y ≡ false) ab (eq_edge_sym b a ∙ ab)) (either (lt_edge a b) a b (λ x y. In x) ia ib) (either (lt_edge a b) a b (λ x y. In y) ib ia) pool room refl new rep

  pub rep_remove : (s : Store) (k : Links) (j : ℕ) → j < length s.dense → eq_edge (get_or s.dense j no_rec).e0 (get_or s.dense j no_rec).e1 ≡ false → In (get_or s.dense j no_rec).e0 → In (get_or s.dense j no_rec).e1
      → Numbered s → grown s ≤ none → Rep s k
      → Rep (remove_found (at_place j (get_or s.dense j no_rec)) s) (remove_links (get_or s.dense j no_rec) k)
  rep_remove s k j i ab ia ib pool room rep g ig =
      let r : Rec = get_or s.dense j no_rec in
      let x : ℕ = r.slot in
      let k₁ : Links = unlink none r.e0 x k in
      three_ways r g (Chain none (swap_remove s.dense j) (remove_links r k))
      (unlink_other none (swap_remove s.dense j) k₁ r.e1 r.e0 x ab (gone none s j k r.e0 pool room i (names_first r.e0 r (eq_edge_refl r.e0)) (rep r.e0 ia)))
      (gone none s j k₁ r.e1 pool room i (names_second r.e1 r (eq_edge_refl r.e1)) (unlink_other none s.dense k r.e0 r.e1 x (eq_edge_sym r.e1 r.e0 ∙ ab) (rep r.e1 ib)))
      (λ u v. go_other none s.dense j (remove_links r k) g i (rw (u, v)) (unlink_other none s.dense k₁ r.e1 g x v (unlink_other none s.dense k r.e0 g x u (rep g ig))))
