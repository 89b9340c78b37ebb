-- A push: buffers that hold a store then hold the store after the push.
use mathlib.Core.Path.{◌≡◌, refl, sym, ap, subst, subst⁻¹, ◌∙◌}
use mathlib.Core.Logic.{◌≢◌}
use mathlib.Core.Bool.{Bool, true, false, not, cond, true≢false}
use mathlib.Core.List.{List, [], ◌∷◌, map}
use Prim.Native.Nat.{ℕ, suc, ◌+◌, ◌-◌, ◌*◌, ◌≤◌, ◌<◌}
use native.Mathlib.Omega.{arith}
use borrow.Author.Tests.{eqb-true, eqb-false, eq-eqb, ne_eqb}
use lib.Dec.{eqb, ltb}
use lib.ListN.{length, get_or, set, length-set, get_or-append}
use lib.Seq.{get_or-set_same, get_or-set_other, get_or-append_seam}
use Rattle.std.proofs.lemmas.Bool.{cond_both}
use Rattle.algebra.specs.Cases.{both, true_or_false}
use Rattle.algebra.specs.Counting.{one, count_p, one_le, count_at, count_snoc, length_snoc}
use Rattle.index_edge.specs.Edge.{Edge, eq_edge, lt_edge}
use Rattle.index_edge.proofs.Edges.{eq_edge_refl, eq_edge_sym, lt_edge_other}
use Rattle.intersection_set.specs.Store as plain
use Rattle.intersection_set.specs.Store.{Rec, Store, no_rec, rec_for, slot_for, rest, grown, names}
use Rattle.intersection_set.specs.Lists.{none, slot_of, tangle}
use Rattle.intersection_set.specs.Pool as pool
use Rattle.intersection_set.specs.Pool.{Ends, ends, no_ends, Pair, pair, no_pair, link_front, Pool, end0, end1, take_slot, put_edges, clear_ends, dense_push, tangle_at, raised, pool_push, push_at, lesser, greater}
use Rattle.intersection_set.specs.Within.{Proper, Sized, PushOk}
use Rattle.intersection_set.specs.Holds.{Each, Sound, HeldIn, AgedIn, Stack, InOrder, Placed, Stored, Holds, MayPush}
use Rattle.intersection_set.proofs.Slots.{numbered_kept, free_below}
use Rattle.intersection_set.proofs.Linked.{head_in}
use Rattle.intersection_set.proofs.Draining.{reverse_push}
use Rattle.intersection_set.proofs.Chains.{Links, Chain, cond_fun, either, Rep, chain_agree, upd, upd_edge, front, push_links, rep_push}
use Rattle.intersection_set.proofs.HeadPlaces.{placed}
use Rattle.intersection_set.proofs.Tangles.{raise_at, length_raised, names_two, can_raise}
use Rattle.intersection_set.proofs.Alike.{Same, same_then, front_same}
use Rattle.intersection_set.proofs.Views.{view, At, link_is}
use Rattle.intersection_set.proofs.Lengths.{inside_of, cap_small, taken_pushes, len_ends, sizes_push, sized_same}
use Rattle.intersection_set.proofs.Holding.{each_push, differ, Near, reach, LiveAt, chain_live, near_head, rep_same, holds_good, lists, lists_of, holds_of}

abbrev pub new_rec : Edge → Edge → Store → Rec
new_rec a b s = rec_for a b s.pushes (slot_for s.free (length s.dense))

-- the smaller edge comes first
smaller_first : (a b : Edge) → eq_edge a b ≡ false → lt_edge (lesser a b) (greater a b) ≡ true
smaller_first a b d = both (true_or_false (lt_edge a b)) (λ u. rw (u, u)) (λ u. rw u (lt_edge_other a b d ∙ ap not u))

new_sound : (n : ℕ) (a b : Edge) (s : Store) → Proper n a → Proper n b → eq_edge a b ≡ false → Sound n (new_rec a b s)
new_sound n a b s pa pb ab =
    record {
      first = either (lt_edge a b) a b (λ x y. Proper n x) pa pb;
      second = either (lt_edge a b) a b (λ x y. Proper n y) pb pa;
      ordered = smaller_first a b ab;
    }

-- ---- the slot that is taken and the counts after it: m records live, l the free slots
record Takes (n : ℕ) (p : Pool) (m : ℕ) (l : List ℕ) : Type 0 where
  pub slot : (take_slot p.counts p.free).slot ≡ slot_for l m
  pub live : (take_slot p.counts p.free).counts.live ≡ suc m
  pub freed : (take_slot p.counts p.free).counts.freed ≡ length (rest l)
  pub grew : (take_slot p.counts p.free).counts.grown ≡ suc m + length (rest l)
  pub below : slot_for l m < n * (n - 1)
  pub room : suc m + length (rest l) ≤ n * (n - 1)
  pub stack : Stack p.free (rest l)

takes : (n : ℕ) (p : Pool) (m : ℕ) (l : List ℕ) → p.counts.live ≡ m → p.counts.freed ≡ length l → p.counts.grown ≡ m + length l → m < n * (n - 1) → m + length l ≤ n * (n - 1)
    → ((k : ℕ) → k < length l → get_or l k 0 < m + length l) → Stack p.free l → Takes n p m l
unfolding take_slot
takes n p m [] hl hf hg r g b st =
    let z : eqb p.counts.freed 0 ≡ true = eq-eqb p.counts.freed 0 hf in
    record { slot = rw z (omega arith); live = rw z (omega arith); freed = rw z; grew = rw z (omega arith); below = r; room = omega arith; stack = tt }
takes n p m (a ∷ l) hl hf hg r g b st =
    let z : eqb p.counts.freed 0 ≡ false = ne_eqb p.counts.freed 0 (λ q. omega arith) in
    let e : p.counts.freed - 1 ≡ length l = omega arith in
    record {
      slot = rw z (ap (λ (i : ℕ). get_or p.free i 0) e ∙ st.0);
      live = rw z (omega arith);
      freed = rw z e;
      grew = rw z (omega arith);
      below = omega (arith, b 0 (omega arith));
      room = omega arith;
      stack = st.1;
    }

-- ---- the record written into its slot
abbrev wrote : Rec → List Pair → List Pair
wrote r v = set v r.slot (pair r.e0 r.e1)

abbrev cleared : ℕ → pool.Links → pool.Links
cleared x l = record { heads = l.heads; next = set l.next x (ends none none); prev = set l.prev x (ends none none) }

pub record Long (m : ℕ) (l : pool.Links) : Type 0 where
  pub heads : m ≤ length l.heads
  pub next : m ≤ length l.next
  pub prev : m ≤ length l.prev

pub long_sized : {n : ℕ} {p : Pool} → Sized n p → Long (n * (n - 1)) p.links
long_sized z = record { heads = omega (arith, z.in_heads); next = omega (arith, z.in_next); prev = omega (arith, z.in_prev) }

long_cleared : (m x : ℕ) (l : pool.Links) → Long m l → Long m (cleared x l)
long_cleared m x l h =
    record { heads = h.heads; next = rw length-set h.next; prev = rw length-set h.prev }

long_link : (m n : ℕ) (e : Edge) (x : ℕ) (w : List Pair) (l : pool.Links) → Long m l → Long m (link_front n e x w l)
unfolding link_front
long_link m n e x w l h =
    record { heads = simp length-set h.heads; next = simp len_ends h.next; prev = simp len_ends h.prev }

-- what is read along g of a slot with these edges and links
abbrev linked_as : Edge → Pair → Ends → ℕ
linked_as g a b = cond (eq_edge g a.e0) b.x0 b.x1

module _ (n : ℕ) (p : Pool) (s : Store) (h : Stored n p s) (rep : lists n p s) (r : Rec) (xm : r.slot < n * (n - 1)) (new : (j : ℕ) → j < length s.dense → (get_or s.dense j no_rec).slot ≢ r.slot) where
  wrote_other : (y : ℕ) → y ≢ r.slot → (end0 (wrote r p.edges) y ≡ end0 p.edges y) × (end1 (wrote r p.edges) y ≡ end1 p.edges y)
  wrote_other y d = let q = get_or-set_other p.edges r.slot y (pair r.e0 r.e1) no_pair d in (ap (λ (k : Pair). k.e0) q, ap (λ (k : Pair). k.e1) q)

  wrote_here : HeldIn (wrote r p.edges) r
  wrote_here = let q = get_or-set_same p.edges r.slot (pair r.e0 r.e1) no_pair (inside_of xm h.sizes.in_edges) in (ap (λ (k : Pair). k.e0) q, ap (λ (k : Pair). k.e1) q)

  wrote_held : Each (HeldIn (wrote r p.edges)) s.dense
  wrote_held j i = ((wrote_other _ (new j i)).0 ∙ (h.held j i).0, (wrote_other _ (new j i)).1 ∙ (h.held j i).1)

  -- the lists are as they were: the slot is in none of them
  wrote_rep : Rep none (Placed n) s (view n (wrote r p.edges) (cleared r.slot p.links))
  wrote_rep g pg =
      let k : Links = view n p.edges p.links in
      let c : Chain none s.dense k g = rep g pg in
      let off : (y : ℕ) → 1 ≤ count_p (eqb y) (map slot_of c.recs) → y ≢ r.slot = λ y u. let z : LiveAt s.dense g y = chain_live s.dense k g c y u in λ q. new z.0 z.1 (sym z.2 ∙ q) in
      chain_agree none s.dense k (view n (wrote r p.edges) (cleared r.slot p.links)) g c refl
      (λ y u.
      let d : y ≢ r.slot = off y u in
      λ i. linked_as g (get_or-set_other p.edges r.slot y (pair r.e0 r.e1) no_pair d i) (get_or-set_other p.links.next r.slot y (ends none none) no_ends d i))
      (λ y u.
      let d : y ≢ r.slot = off y u in
      λ i. linked_as g (get_or-set_other p.edges r.slot y (pair r.e0 r.e1) no_pair d i) (get_or-set_other p.links.prev r.slot y (ends none none) no_ends d i))

-- ---- linked in front of both lists: v and l with the record written, k what they say
abbrev linked2 : ℕ → Rec → List Pair → pool.Links → pool.Links
linked2 n r v l = link_front n r.e1 r.slot v (link_front n r.e0 r.slot v l)

module _ (n : ℕ) (v : List Pair) (l : pool.Links) (r : Rec) (long : Long (n * (n - 1)) l) (sound : Sound n r) (here : HeldIn v r) (xm : r.slot < n * (n - 1)) (xn : r.slot ≢ none)
    (near : (g : Edge) → Placed n g → (view n v l).head g ≢ none → Near n v g ((view n v l).head g)) (other : (g : Edge) → Placed n g → (view n v l).head g ≢ none → (view n v l).head g ≢ r.slot)
    (pv : (g : Edge) → (view n v l).prev g r.slot ≡ none) where
  twice_is : Same (Placed n) (At v) (view n v (linked2 n r v l)) (push_links none (Placed n) r (view n v l))
  twice_is =
      let x : ℕ = r.slot in
      let k : Links = view n v l in
      let p0 : Placed n r.e0 = placed sound.first in
      let p1 : Placed n r.e1 = placed sound.second in
      let d01 : eq_edge r.e0 r.e1 ≡ false = differ sound in
      let d10 : eq_edge r.e1 r.e0 ≡ false = eq_edge_sym r.e1 r.e0 ∙ d01 in
      let v0 : At v r.e0 x = rw (here.0, here.1) (record { apart = d01; one_of = λ u. absurd (true≢false (sym (eq_edge_refl r.e0) ∙ u)) }) in
      let v1 : At v r.e1 x = rw (here.0, here.1) (record { apart = d01; one_of = λ _. refl }) in
      let l1 : pool.Links = link_front n r.e0 x v l in
      let long1 : Long (n * (n - 1)) l1 = long_link (n * (n - 1)) n r.e0 x v l long in
      let S1 : Same (Placed n) (At v) (view n v l1) (front none r.e0 x k)
      = link_is n v l long.heads r.e0 p0 x xn (reach l.next long.next (record { below = xm; valid = v0 })) (λ u. reach l.prev long.prev (near r.e0 p0 u)) (other r.e0 p0) (pv r.e0) in
      let hh : (view n v l1).head r.e1 ≡ k.head r.e1 = S1.heads r.e1 p1 ∙ ap (λ (t : Bool). cond t x (k.head r.e1)) d10 in
      let q2 : (view n v l1).prev r.e1 x ≡ none
      = S1.prevs r.e1 x v1
      ∙ upd_edge r.e0 x none (cond (eqb (k.head r.e0) none) k.prev (upd r.e0 (k.head r.e0) x k.prev)) r.e1 x d10
      ∙ cond_fun (eqb (k.head r.e0) none) k.prev (upd r.e0 (k.head r.e0) x k.prev) r.e1 x none (pv r.e1) (upd_edge r.e0 (k.head r.e0) x k.prev r.e1 x d10 ∙ pv r.e1) in
      let S2 : Same (Placed n) (At v) (view n v (linked2 n r v l)) (front none r.e1 x (view n v l1))
      = link_is n v l1 long1.heads r.e1 p1 x xn (reach l1.next long1.next (record { below = xm; valid = v1 }))
      (λ u. reach l1.prev long1.prev (subst⁻¹ (Near n v r.e1) hh (near r.e1 p1 (λ t. u (hh ∙ t)))))
      (λ u q. other r.e1 p1 (λ t. u (hh ∙ t)) (sym hh ∙ q))
      q2 in
      let S3 : Same (Placed n) (At v) (front none r.e1 x (view n v l1)) (push_links none (Placed n) r k)
      = front_same (Placed n) (At v) none r.e1 x (view n v l1) (front none r.e0 x k) p1 S1 in
      same_then (Placed n) (At v) (view n v (linked2 n r v l)) (front none r.e1 x (view n v l1)) (push_links none (Placed n) r k) S2 S3

-- ---- the push, whole
module _ (n : ℕ) (p : Pool) (s : Store) (h : Stored n p s) (rep : lists n p s) (a b : Edge) (pa : Proper n a) (pb : Proper n b) (ab : eq_edge a b ≡ false) (room : length s.dense < n * (n - 1)) where
  took : Takes n p (length s.dense) s.free
  took = takes n p (length s.dense) s.free h.live h.freed h.grew room h.room (free_below s h.numbered) h.frees

  new_slot : (j : ℕ) → j < length s.dense → (get_or s.dense j no_rec).slot ≢ (new_rec a b s).slot
  new_slot j i q =
      let x : ℕ = (new_rec a b s).slot in
      omega (
        arith,
        (numbered_kept.on_push a b s h.numbered).slots x,
        count_snoc (λ y. eqb x y.slot) s.dense (new_rec a b s),
        ap one (eq-eqb x x refl),
        one_le (ltb x (grown (plain.push a b s))) true (λ _. refl),
        count_at (λ y. eqb x y.slot) s.dense j no_rec i (eq-eqb x _ (sym q)),
      )

  pub lists_push : Rep none (Placed n) (plain.push a b s) (view n (wrote (new_rec a b s) p.edges) (linked2 n (new_rec a b s) (wrote (new_rec a b s) p.edges) (cleared (new_rec a b s).slot p.links)))
  lists_push =
      let r : Rec = new_rec a b s in
      let v : List Pair = wrote r p.edges in
      let l : pool.Links = cleared r.slot p.links in
      let k : Links = view n v l in
      let xm : r.slot < n * (n - 1) = took.below in
      let cap = cap_small h.small in
      let sr : Sound n r = new_sound n a b s pa pb ab in
      let here : HeldIn v r = wrote_here n p s h rep r xm new_slot in
      let held1 : Each (HeldIn v) s.dense = wrote_held n p s h rep r xm new_slot in
      let rep1 : Rep none (Placed n) s k = wrote_rep n p s h rep r xm new_slot in
      let long : Long (n * (n - 1)) l = long_cleared (n * (n - 1)) r.slot p.links (long_sized h.sizes) in
      let pv : (g : Edge) → k.prev g r.slot ≡ none
      = λ g. rw (get_or-set_same p.links.prev r.slot (ends none none) no_ends (inside_of xm h.sizes.in_prev)) (cond_both (eq_edge g (end0 v r.slot)) none none (λ x. x ≡ none) (λ _. refl) (λ _. refl)) in
      let near : (g : Edge) → Placed n g → k.head g ≢ none → Near n v g (k.head g) = λ g pg u. near_head n v s h.numbered h.room h.sound held1 k g (rep1 g pg) u in
      let other : (g : Edge) → Placed n g → k.head g ≢ none → k.head g ≢ r.slot
      = λ g pg u q.
      let z : LiveAt s.dense g (k.head g)
      = chain_live s.dense k g (rep1 g pg) (k.head g) (head_in none (k.next g) (k.prev g) (k.head g) none (map slot_of (rep1 g pg).recs) (rep1 g pg).linked u) in
      new_slot z.0 z.1 (sym z.2 ∙ q) in
      rep_same n v (plain.push a b s) (push_links none (Placed n) r k) (view n v (linked2 n r v l)) (numbered_kept.on_push a b s h.numbered)
      (omega (arith, took.room, length_snoc s.dense r))
      (each_push (Sound n) s.dense r h.sound sr)
      (each_push (HeldIn v) s.dense r held1 here)
      (twice_is n v l r long sr here xm (λ q. omega (arith, xm, q, cap)) near other pv)
      (rep_push none (Placed n) s k a b ab (placed pa) (placed pb) h.numbered (omega (arith, h.room, cap)) rep1)

  pub push_ok : s.pushes + 1 < 4294967296 → PushOk n (new_rec a b s).e0 (new_rec a b s).e1 p
  push_ok young =
      let sr : Sound n (new_rec a b s) = new_sound n a b s pa pb ab in
      record {
        good = holds_good n p s h rep;
        edge0 = sr.first;
        edge1 = sr.second;
        differ = differ sr;
        room = omega (arith, h.live);
        young = omega (arith, young, h.pushed);
        raises = record { first = can_raise h sr.first; second = can_raise h sr.second; apart = differ sr };
      }

  sized : Sized n (push_at n (new_rec a b s).e0 (new_rec a b s).e1 (take_slot p.counts p.free).slot (take_slot p.counts p.free).counts p)
  unfolding pool_push
  sized = sized_same (sizes_push n (new_rec a b s).e0 (new_rec a b s).e1 p) h.sizes

  in_order : InOrder (set p.order.dense p.counts.live (new_rec a b s).slot) (plain.push a b s).dense
  in_order j i =
      both (true_or_false (eqb j (length s.dense)))
      (λ u.
      let e : j ≡ length s.dense = eqb-true j _ u in
      let e' : j ≡ p.counts.live = omega (arith, h.live) in
      ap (λ (k : ℕ). get_or (set p.order.dense p.counts.live (new_rec a b s).slot) k 0) e'
      ∙ get_or-set_same p.order.dense p.counts.live (new_rec a b s).slot 0 (omega (arith, h.live, h.sizes.in_dense))
      ∙ sym (ap (λ (k : ℕ). (get_or (plain.push a b s).dense k no_rec).slot) e ∙ ap slot_of (get_or-append_seam s.dense (new_rec a b s) [] no_rec)))
      (λ u.
      let k : j < length s.dense = omega (arith, eqb-false j _ u, length_snoc s.dense (new_rec a b s)) in
      get_or-set_other p.order.dense p.counts.live j (new_rec a b s).slot 0 (λ q. omega (arith, q, h.live, k))
      ∙ h.order j k
      ∙ sym (ap slot_of (get_or-append s.dense (new_rec a b s ∷ []) no_rec j k)))

  -- the new record's age is the count of pushes, the others are as they were
  aged_push : {v : ℕ} → v ≡ s.pushes → Each (AgedIn (set p.ages (new_rec a b s).slot v)) (plain.push a b s).dense
  aged_push {v} e =
      let r : Rec = new_rec a b s in
      each_push (AgedIn (set p.ages r.slot v)) s.dense r
      (λ j i. get_or-set_other p.ages r.slot (get_or s.dense j no_rec).slot v 0 (new_slot j i) ∙ h.aged j i)
      (get_or-set_same p.ages r.slot v 0 (inside_of took.below h.sizes.in_ages) ∙ e)

  -- one record more names each of its two edges
  tangled_push : (g : Edge) → Placed n g → tangle_at n g (raised n (new_rec a b s).e1 (raised n (new_rec a b s).e0 p.tangles)) ≡ tangle g (plain.push a b s)
  tangled_push g pg =
      let r : Rec = new_rec a b s in
      let sr : Sound n r = new_sound n a b s pa pb ab in
      let l : List ℕ = raised n r.e0 p.tangles in
      let long : length l ≡ n * (n - 1) = length_raised n r.e0 p.tangles ∙ h.sizes.in_tangles in
      omega (
        arith,
        raise_at n l r.e1 g (omega (arith, long)) (placed sr.second) pg,
        raise_at n p.tangles r.e0 g (omega (arith, h.sizes.in_tangles)) (placed sr.first) pg,
        h.tangled g pg,
        count_snoc (names g) s.dense r,
        names_two g r (differ sr),
      )

  at_slot : Stored n (push_at n (new_rec a b s).e0 (new_rec a b s).e1 (new_rec a b s).slot (take_slot p.counts p.free).counts p) (plain.push a b s)
  unfolding put_edges dense_push
  at_slot =
      let r : Rec = new_rec a b s in
      let xm : r.slot < n * (n - 1) = took.below in
      record {
        small = h.small;
        sizes = subst (λ (x : ℕ). Sized n (push_at n r.e0 r.e1 x (take_slot p.counts p.free).counts p)) took.slot sized;
        numbered = numbered_kept.on_push a b s h.numbered;
        room = omega (arith, took.room, length_snoc s.dense r);
        live = took.live ∙ sym (length_snoc s.dense r);
        freed = took.freed;
        grew = omega (arith, took.grew, length_snoc s.dense r);
        order = in_order;
        reverse = rw h.live (reverse_push s.dense r p.order.reverse (inside_of xm h.sizes.in_reverse) new_slot h.reverse);
        frees = took.stack;
        sound = each_push (Sound n) s.dense r h.sound (new_sound n a b s pa pb ab);
        held = each_push (HeldIn (wrote r p.edges)) s.dense r (wrote_held n p s h rep r xm new_slot) (wrote_here n p s h rep r xm new_slot);
        pushed = omega (arith, taken_pushes p.counts p.free, h.pushed);
        aged = aged_push (taken_pushes p.counts p.free ∙ h.pushed);
        tangled = tangled_push;
      }

  lists_at_slot : lists n (push_at n (new_rec a b s).e0 (new_rec a b s).e1 (new_rec a b s).slot (take_slot p.counts p.free).counts p) (plain.push a b s)
  unfolding put_edges clear_ends
  lists_at_slot = lists_push

  holds_pushed : Holds n (pool_push n (new_rec a b s).e0 (new_rec a b s).e1 p) (plain.push a b s)
  unfolding pool_push
  holds_pushed =
      subst⁻¹ (λ (x : ℕ). Holds n (push_at n (new_rec a b s).e0 (new_rec a b s).e1 x (take_slot p.counts p.free).counts p) (plain.push a b s)) took.slot
      (holds_of n (push_at n (new_rec a b s).e0 (new_rec a b s).e1 (new_rec a b s).slot (take_slot p.counts p.free).counts p) (plain.push a b s) at_slot lists_at_slot)

-- ---- what a caller uses
module _ (n : ℕ) (p : Pool) (s : Store) (h : Holds n p s) (a b : Edge) where
  pub may_push : MayPush n a b s → PushOk n (lesser a b) (greater a b) p
  may_push m = push_ok n p s h.stored (lists_of n p s h) a b m.first m.second m.differ m.room m.young

  -- buffers that hold a store, after a push, hold the store after the push
  pub holds_push : MayPush n a b s → Holds n (pool_push n (lesser a b) (greater a b) p) (plain.push a b s)
  holds_push m = holds_pushed n p s h.stored (lists_of n p s h) a b m.first m.second m.differ m.room

  -- the same of two edges and a pool that the code's steps leave
  module _ {e f : Edge} (ee : e ≡ lesser a b) (ef : f ≡ greater a b) (m : MayPush n a b s) where
    pub push_allowed : PushOk n e f p
    push_allowed = rw (ee, ef) (may_push m)

    pub push_holds : {q : Pool} → q ≡ pool_push n e f p → Holds n q (plain.push a b s)
    push_holds eq = rw (eq, ee, ef) (holds_push m)
