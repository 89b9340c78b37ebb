-- Buffers that hold a store: what they say slot by slot, and that heads and links by equation are the same as linked lists.
use mathlib.Core.Path.{◌≡◌, refl, sym, ap, subst⁻¹, ◌∙◌}
use mathlib.Core.Logic.{◌≢◌}
use mathlib.Core.Bool.{Bool, true, false, ◌&&◌, ◌||◌, cond, true≢false}
use mathlib.Core.List.{List, [], ◌∷◌, ◌++◌, map}
use Prim.Native.Nat.{ℕ, ◌-◌, ◌*◌, ◌≤◌, ◌<◌}
use native.Mathlib.Omega.{arith}
use native.Mathlib.Nat.{lt_of_lt_of_le}
use borrow.Author.Tests.{eqb-true, eqb-false, eq-eqb, ltb-true}
use lib.Dec.{eqb, ltb}
use lib.ListN.{length, get_or, set, get_or-append}
use lib.Seq.{get_or-set_other, get_or-append_seam}
use Rattle.algebra.specs.Cases.{and_left, and_right, both, true_or_false}
use Rattle.algebra.specs.Counting.{one, count_p, one_le, count_at, count_find, count_le, count_map, length_snoc}
use Rattle.index_edge.specs.Edge.{Edge, eq_edge}
use Rattle.index_edge.proofs.Edges.{eq_edge_true, eq_edge_refl, eq_edge_sym, lt_edge_diff}
use Rattle.intersection_set.specs.Store.{Rec, Store, no_rec, swap_remove, names, grown}
use Rattle.intersection_set.specs.Numbered.{Numbered}
use Rattle.intersection_set.specs.Lists.{none, slot_of, list_of, slots_of, next_of, prev_of}
use Rattle.intersection_set.specs.Pool.{Ends, no_ends, Pair, Pool, end0, end1}
use Rattle.intersection_set.specs.Within.{Good}
use Rattle.intersection_set.specs.Holds.{Each, Sound, HeldIn, Stack, Placed, Stored, Holds}
use Rattle.intersection_set.proofs.Slots.{slot_below, swap_remove_length}
use Rattle.intersection_set.proofs.Linked.{OnceN, Linked, head_in, prev_in, next_in}
use Rattle.intersection_set.proofs.Draining.{swap_other, swap_here}
use Rattle.intersection_set.proofs.Chains.{Links, Chain, Rep, names_first, names_second, in_chain, map_app, chain_agree}
use Rattle.intersection_set.proofs.ByAge.{list_of_count, linked_is, chain_of}
use Rattle.intersection_set.proofs.ReadOff.{In, linked_head, linked_next, linked_prev, linked_of}
use Rattle.intersection_set.proofs.HeadPlaces.{placed}
use Rattle.intersection_set.proofs.Alike.{Valid, Same}
use Rattle.intersection_set.proofs.Views.{link_at, view, At, Reach}
use Rattle.intersection_set.proofs.Lengths.{cap_small}

-- ---- a property of each record
pub each_push : (Q : Rec → Type 0) (d : List Rec) (r : Rec) → Each Q d → Q r → Each Q (d ++ (r ∷ []))
each_push Q d r h q j i =
    both (true_or_false (eqb j (length d)))
    (λ u. subst⁻¹ Q (ap (λ (k : ℕ). get_or (d ++ (r ∷ [])) k no_rec) (eqb-true j (length d) u) ∙ get_or-append_seam d r [] no_rec) q)
    (λ u. let k : j < length d = omega (arith, eqb-false j (length d) u, length_snoc d r) in subst⁻¹ Q (get_or-append d (r ∷ []) no_rec j k) (h j k))

pub each_remove : (Q : Rec → Type 0) (d : List Rec) (k : ℕ) → k < length d → Each Q d → Each Q (swap_remove d k)
each_remove Q d k h e j u =
    let z : j < length d - 1 = omega (arith, swap_remove_length d k h) in
    both (true_or_false (eqb j k))
    (λ v.
    let q : j ≡ k = eqb-true j k v in
    let kz : k < length d - 1 = omega arith in
    subst⁻¹ Q (ap (λ (x : ℕ). get_or (swap_remove d k) x no_rec) q ∙ swap_here d k h kz) (e (length d - 1) (omega arith)))
    (λ v. subst⁻¹ Q (swap_other d k j h z (eqb-false j k v)) (e j (omega arith)))

-- ---- what holds of a record
pub differ : {n : ℕ} {r : Rec} → Sound n r → eq_edge r.e0 r.e1 ≡ false
differ {r} h = lt_edge_diff r.e0 r.e1 h.ordered

-- ---- the free slots
pub stack_set : (q : List ℕ) (i x : ℕ) (l : List ℕ) → length l ≤ i → Stack q l → Stack (set q i x) l
stack_set q i x [] h k = tt
stack_set q i x (a ∷ l) h k = (get_or-set_other q i (length l) x 0 (λ e. omega arith) ∙ k.0, stack_set q i x l (omega arith) k.1)

stack_in : (q l : List ℕ) → Stack q l → (k : ℕ) → k < length l → 1 ≤ count_p (eqb (get_or q k 0)) l
stack_in q [] s k h = absurd (omega arith)
stack_in q (a ∷ l) s k h =
    both (true_or_false (eqb k (length l)))
    (λ u. omega (arith, ap one (eq-eqb (get_or q k 0) a (ap (λ (i : ℕ). get_or q i 0) (eqb-true k (length l) u) ∙ s.0))))
    (λ u. omega (arith, stack_in q l s.1 k (omega (arith, eqb-false k (length l) u))))

-- ---- a slot met along g's list is that of a live record that names g
named_valid : (n : ℕ) (g : Edge) (r : Rec) → names g r ≡ true → Sound n r → Valid r.e0 r.e1 g
named_valid n g r h d = record { apart = differ d; one_of = λ u. eq_edge_true g r.e1 (second (eq_edge g r.e0) u h) }
  where
    second : (b : Bool) → b ≡ false → (b || eq_edge g r.e1) ≡ true → eq_edge g r.e1 ≡ true
    second true u h = absurd (true≢false u)
    second false u h = h

pub record Near (n : ℕ) (v : List Pair) (g : Edge) (y : ℕ) : Type 0 where
  pub below : y < n * (n - 1)
  pub valid : At v g y

pub reach : {n : ℕ} {v : List Pair} {g : Edge} {y : ℕ} (x : List Ends) → n * (n - 1) ≤ length x → Near n v g y → Reach v x g y
reach x h r = record { inside = lt_of_lt_of_le r.below h; valid = r.valid }

-- the dense place of the record at a slot, and that it names g
abbrev pub LiveAt : List Rec → Edge → ℕ → Type 0
LiveAt d g y = (j : ℕ) × (j < length d) × (y ≡ (get_or d j no_rec).slot) × (names g (get_or d j no_rec) ≡ true)

live_at : (d l : List Rec) (g : Edge) → ((p : Rec → Bool) → count_p p l ≡ count_p (λ r. names g r && p r) d) → (y : ℕ) → In y (map slot_of l) → LiveAt d g y
live_at d l g same y h =
    let z : (j : ℕ) × (j < length d) × ((names g (get_or d j no_rec) && eqb y (get_or d j no_rec).slot) ≡ true)
    = count_find (λ r. names g r && eqb y r.slot) d no_rec (omega (arith, h, count_map (eqb y) slot_of l, same (λ r. eqb y r.slot))) in
    (z.0, z.1, eqb-true y _ (and_right (names g (get_or d z.0 no_rec)) _ z.2), and_left (names g (get_or d z.0 no_rec)) _ z.2)

pub chain_live : (d : List Rec) (k : Links) (g : Edge) (c : Chain none d k g) (y : ℕ) → In y (map slot_of c.recs) → LiveAt d g y
chain_live d k g c y h = live_at d c.recs g c.same y h

module _ (n : ℕ) (v : List Pair) (s : Store) (numbered : Numbered s) (room : grown s ≤ n * (n - 1)) (sound : Each (Sound n) s.dense) (held : Each (HeldIn v) s.dense) (k : Links) (g : Edge) (c : Chain none s.dense k g) where
  pub near_in : (y : ℕ) → In y (map slot_of c.recs) → Near n v g y
  near_in y u =
      let z : LiveAt s.dense g y = chain_live s.dense k g c y u in
      let w : Valid (end0 v (get_or s.dense z.0 no_rec).slot) (end1 v (get_or s.dense z.0 no_rec).slot) g
      = rw ((held z.0 z.1).0, (held z.0 z.1).1) (named_valid n g (get_or s.dense z.0 no_rec) z.3 (sound z.0 z.1)) in
      record { below = omega (arith, z.2, slot_below s numbered z.0 z.1); valid = subst⁻¹ (At v g) z.2 w }

  pub near_head : k.head g ≢ none → Near n v g (k.head g)
  near_head u = near_in (k.head g) (head_in none (k.next g) (k.prev g) (k.head g) none (map slot_of c.recs) c.linked u)

  module _ (j : ℕ) (h : j < length s.dense) (named : names g (get_or s.dense j no_rec) ≡ true) where
    places : (a b : List Rec) × (map slot_of c.recs ≡ map slot_of a ++ (get_or s.dense j no_rec).slot ∷ map slot_of b)
    places =
        let z : (a b : List Rec) × (c.recs ≡ a ++ get_or s.dense j no_rec ∷ b) = in_chain none s.dense k g j h named c in
        (z.0, z.1, ap (map slot_of) z.2 ∙ map_app z.0 (get_or s.dense j no_rec ∷ z.1))

    pub near_prev : k.prev g (get_or s.dense j no_rec).slot ≢ none → Near n v g (k.prev g (get_or s.dense j no_rec).slot)
    near_prev u =
        near_in _
        (rw places.2 (prev_in none (k.next g) (k.prev g) (map slot_of places.0) (get_or s.dense j no_rec).slot (map slot_of places.1) none (k.head g) (rw places.2 at c.linked) u))

    pub near_next : k.next g (get_or s.dense j no_rec).slot ≢ none → Near n v g (k.next g (get_or s.dense j no_rec).slot)
    near_next u =
        near_in _
        (rw places.2 (next_in none (k.next g) (k.prev g) (map slot_of places.0) (get_or s.dense j no_rec).slot (map slot_of places.1) none (k.head g) (rw places.2 at c.linked) u))

-- links that are read alike hold the same lists
pub rep_same : (n : ℕ) (v : List Pair) (s : Store) (k k' : Links) → Numbered s → grown s ≤ n * (n - 1) → Each (Sound n) s.dense → Each (HeldIn v) s.dense → Same (Placed n) (At v) k' k
    → Rep none (Placed n) s k → Rep none (Placed n) s k'
rep_same n v s k k' numbered room sound held same rep g pg =
    let c : Chain none s.dense k g = rep g pg in
    chain_agree none s.dense k k' g c (same.heads g pg)
    (λ y u. same.nexts g y (near_in n v s numbered room sound held k g c y u).valid)
    (λ y u. same.prevs g y (near_in n v s numbered room sound held k g c y u).valid)

-- ---- a record's links, read along its two edges
module _ (n : ℕ) (v : List Pair) (r : Rec) (sound : Sound n r) (held : HeldIn v r) (x : List Ends) where
  pub along_first : link_at v x r.e0 r.slot ≡ (get_or x r.slot no_ends).x0
  along_first = ap (λ (b : Bool). cond b (get_or x r.slot no_ends).x0 (get_or x r.slot no_ends).x1) (ap (eq_edge r.e0) held.0 ∙ eq_edge_refl r.e0)

  pub along_second : link_at v x r.e1 r.slot ≡ (get_or x r.slot no_ends).x1
  along_second =
      ap (λ (b : Bool). cond b (get_or x r.slot no_ends).x0 (get_or x r.slot no_ends).x1) (ap (eq_edge r.e1) held.0 ∙ eq_edge_sym r.e1 r.e0 ∙ differ sound)

-- ---- linked lists by equation
abbrev pub lists : ℕ → Pool → Store → Type 0
lists n p s = Rep none (Placed n) s (view n p.edges p.links)

pub slots_once : (s : Store) → Numbered s → (e : Edge) → OnceN (slots_of e s)
slots_once s numbered e y =
    omega (
      arith,
      count_map (eqb y) slot_of (list_of e s.dense),
      list_of_count e (λ r. eqb y r.slot) s.dense,
      count_le (λ r. names e r && eqb y r.slot) (λ r. eqb y r.slot) (λ r. and_right (names e r) (eqb y r.slot)) s.dense,
      numbered.slots y,
      one_le (ltb y (grown s)) true (λ _. refl),
    )

-- a live record that names e has its slot in e's list
pub slot_in_list : (s : Store) (e : Edge) (j : ℕ) → j < length s.dense → names e (get_or s.dense j no_rec) ≡ true → In (get_or s.dense j no_rec).slot (slots_of e s)
slot_in_list s e j i named =
    let x : ℕ = (get_or s.dense j no_rec).slot in
    omega (
      arith,
      count_map (eqb x) slot_of (list_of e s.dense),
      list_of_count e (λ r. eqb x r.slot) s.dense,
      count_at (λ r. names e r && eqb x r.slot) s.dense j no_rec i (rw (named, eq-eqb x x refl)),
    )

module _ (n : ℕ) (p : Pool) (s : Store) where
  -- what a link field has is what is read along each edge that its record names
  read_along : (x : List Ends) (of : Edge → ℕ → ℕ)
      → ((j : ℕ) → j < length s.dense → ((get_or x (get_or s.dense j no_rec).slot no_ends).x0 ≡ of (get_or s.dense j no_rec).e0 (get_or s.dense j no_rec).slot) × ((get_or x (get_or s.dense j no_rec).slot no_ends).x1 ≡ of (get_or s.dense j no_rec).e1 (get_or s.dense j no_rec).slot))
      → Each (Sound n) s.dense → Each (HeldIn p.edges) s.dense → (e : Edge) (y : ℕ) → LiveAt s.dense e y → link_at p.edges x e y ≡ of e y
  read_along x of f sound held e y z =
      let r : Rec = get_or s.dense z.0 no_rec in
      let so : Sound n r = sound z.0 z.1 in
      let he : HeldIn p.edges r = held z.0 z.1 in
      subst⁻¹ (λ (y : ℕ). link_at p.edges x e y ≡ of e y) z.2
      (both (true_or_false (eq_edge e r.e0))
      (λ u. subst⁻¹ (λ (e : Edge). link_at p.edges x e r.slot ≡ of e r.slot) (eq_edge_true e r.e0 u) (along_first n p.edges r so he x ∙ (f z.0 z.1).0))
      (λ u. subst⁻¹ (λ (e : Edge). link_at p.edges x e r.slot ≡ of e r.slot) ((named_valid n e r z.3 so).one_of u) (along_second n p.edges r so he x ∙ (f z.0 z.1).1)))

  pub lists_of : Holds n p s → lists n p s
  lists_of h e pe =
      let t = h.stored in
      let k : Links = view n p.edges p.links in
      let live : (x : ℕ) → In x (slots_of e s) → LiveAt s.dense e x = live_at s.dense (list_of e s.dense) e (λ q. list_of_count e q s.dense) in
      chain_of none s k e t.numbered
      (linked_of none (k.next e) (k.prev e) (slots_of e s) none (k.head e) (slots_once s t.numbered e) (h.heads e pe)
      (λ x i. read_along p.links.next (λ g y. next_of g y s) (λ j u. ((h.linked j u).next0, (h.linked j u).next1)) t.sound t.held e x (live x i))
      (λ x i. read_along p.links.prev (λ g y. prev_of g y s) (λ j u. ((h.linked j u).prev0, (h.linked j u).prev1)) t.sound t.held e x (live x i)))

  pub holds_of : Stored n p s → lists n p s → Holds n p s
  holds_of t rep =
      let k : Links = view n p.edges p.links in
      let list : (e : Edge) → Placed n e → Linked none (k.next e) (k.prev e) none (k.head e) (slots_of e s) = λ e pe. linked_is none s k e t.numbered (rep e pe) in
      let next : (e : Edge) → Placed n e → (x : ℕ) → In x (slots_of e s) → k.next e x ≡ next_of e x s = λ e pe. linked_next none (k.next e) (k.prev e) (slots_of e s) none (k.head e) (list e pe) in
      let prev : (e : Edge) → Placed n e → (x : ℕ) → In x (slots_of e s) → k.prev e x ≡ prev_of e x s = λ e pe. linked_prev none (k.next e) (k.prev e) (slots_of e s) none (k.head e) (list e pe) in
      record {
        stored = t;
        heads = λ e pe. linked_head none (k.next e) (k.prev e) (slots_of e s) none (k.head e) (list e pe);
        linked =
            λ j i.
            let r : Rec = get_or s.dense j no_rec in
            let so : Sound n r = t.sound j i in
            let he : HeldIn p.edges r = t.held j i in
            let in0 : In r.slot (slots_of r.e0 s) = slot_in_list s r.e0 j i (names_first r.e0 r (eq_edge_refl r.e0)) in
            let in1 : In r.slot (slots_of r.e1 s) = slot_in_list s r.e1 j i (names_second r.e1 r (eq_edge_refl r.e1)) in
            record {
              next0 = sym (along_first n p.edges r so he p.links.next) ∙ next r.e0 (placed so.first) r.slot in0;
              prev0 = sym (along_first n p.edges r so he p.links.prev) ∙ prev r.e0 (placed so.first) r.slot in0;
              next1 = sym (along_second n p.edges r so he p.links.next) ∙ next r.e1 (placed so.second) r.slot in1;
              prev1 = sym (along_second n p.edges r so he p.links.prev) ∙ prev r.e1 (placed so.second) r.slot in1;
            };
      }

-- ---- every index stays inside
module _ (n : ℕ) (p : Pool) (s : Store) (h : Stored n p s) where
  pub not_none : (j : ℕ) → j < length s.dense → (get_or s.dense j no_rec).slot ≢ none
  not_none j i e = omega (arith, slot_below s h.numbered j i, h.room, cap_small h.small)

  frees_below : (k : ℕ) → k < p.counts.freed → get_or p.free k 0 < n * (n - 1)
  frees_below k i =
      let a : ℕ = get_or p.free k 0 in
      let c : 1 ≤ count_p (eqb a) s.free = stack_in p.free s.free h.frees k (omega (arith, h.freed)) in
      both (true_or_false (ltb a (grown s)))
      (λ u. omega (arith, ltb-true a (grown s) u, h.room))
      (λ u. absurd (omega (arith, h.numbered.slots a, ap one u)))

  pub holds_good : lists n p s → Good n p
  holds_good rep =
      record {
        small = h.small;
        sizes = h.sizes;
        split = omega (arith, h.live, h.freed, h.grew);
        bound = omega (arith, h.grew, h.room);
        frees = frees_below;
        head = λ e ok z. (near_head n p.edges s h.numbered h.room h.sound h.held (view n p.edges p.links) e (rep e (placed ok)) z).below;
      }
