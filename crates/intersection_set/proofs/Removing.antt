-- A removal, and the removal of all of an edge: buffers that hold a store then hold the store after it.
use mathlib.Core.Path.{◌≡◌, refl, sym, ap, subst, subst⁻¹, ◌∙◌}
use mathlib.Core.Logic.{◌≢◌}
use mathlib.Core.Bool.{true, false}
use mathlib.Core.List.{List, ◌∷◌}
use Prim.Native.Nat.{ℕ, zero, suc, ◌-◌, ◌*◌, ◌≤◌, ◌<◌}
use native.Mathlib.Omega.{arith}
use borrow.Author.Tests.{eqb-true, eqb-false}
use lib.Dec.{eqb}
use lib.ListN.{length, get_or, set}
use lib.Seq.{get_or-set_same, get_or-set_other}
use Rattle.algebra.specs.Cases.{both, true_or_false}
use Rattle.algebra.specs.Counting.{count_at}
use Rattle.index_edge.specs.Edge.{Edge, eq_edge}
use Rattle.index_edge.proofs.Edges.{eq_edge_refl, eq_edge_sym}
use Rattle.intersection_set.specs.Store as plain
use Rattle.intersection_set.specs.Store.{Rec, Store, Found, nothing, at_place, no_rec, swap_remove, newest_from, remove_found, remove_all_fuel, names}
use Rattle.intersection_set.specs.Lists.{none, slot_of, tangle}
use Rattle.intersection_set.specs.Pool as pool
use Rattle.intersection_set.specs.Pool.{no_ends, Pair, Pool, end0, end1, dense_remove, unlink_from, tangle_at, lowered, pool_remove, pool_remove_all, head_at}
use Rattle.intersection_set.specs.Within.{Proper, RemoveOk, HeadOk, Drained}
use Rattle.intersection_set.specs.Holds.{Sound, HeldIn, AgedIn, InOrder, Stack, Placed, Stored, Holds}
use Rattle.intersection_set.proofs.Records.{count_swap, Newest, newest_is}
use Rattle.intersection_set.proofs.Slots.{numbered_kept, slot_below, swap_remove_length}
use Rattle.intersection_set.proofs.Draining.{stays, reverse_remove, swap_other, swap_here}
use Rattle.intersection_set.proofs.Chains.{Links, Rep, cond_fun, names_first, names_second, upd_edge, unlink, remove_links, rep_remove, slot_found, head_newest}
use Rattle.intersection_set.proofs.HeadPlaces.{placed}
use Rattle.intersection_set.proofs.Tangles.{lower_at, length_lowered, names_two, can_lower}
use Rattle.intersection_set.proofs.Alike.{Same, same_then, unlink_same}
use Rattle.intersection_set.proofs.Views.{view, At, unlink_is}
use Rattle.intersection_set.proofs.Lengths.{inside_of, cap_small, end_ok, head_ok, len_ends, len_head, sizes_remove, sized_same, live_remove, drained_next, all_none, all_suc, all_some}
use Rattle.intersection_set.proofs.Holding.{each_remove, differ, stack_set, Near, reach, near_prev, near_next, rep_same, along_first, along_second, lists, lists_of, holds_of, not_none}
use Rattle.intersection_set.proofs.Pushing.{Long, long_sized}

long_unlink : (m n : ℕ) (e : Edge) (x y : ℕ) (w : List Pair) (l : pool.Links) → Long m l → Long m (unlink_from n e x y w l)
unfolding unlink_from
long_unlink m n e x y w l h =
    record { heads = simp len_head h.heads; next = simp len_ends h.next; prev = simp len_ends h.prev }

-- ---- links along another edge
other_prev : (e g : Edge) (x y : ℕ) (k : Links) → eq_edge g e ≡ false → (unlink none e x k).prev g y ≡ k.prev g y
other_prev e g x y k h = cond_fun (eqb (k.next e x) none) _ _ g y (k.prev g y) refl (upd_edge e (k.next e x) (k.prev e x) k.prev g y h)

other_next : (e g : Edge) (x y : ℕ) (k : Links) → eq_edge g e ≡ false → (unlink none e x k).next g y ≡ k.next g y
other_next e g x y k h = cond_fun (eqb (k.prev e x) none) _ _ g y (k.next g y) refl (upd_edge e (k.prev e x) (k.next e x) k.next g y h)

-- ---- out of both lists
abbrev out1 : ℕ → ℕ → Edge → List Pair → pool.Links → pool.Links
out1 n x e v l = unlink_from n e (get_or l.next x no_ends).x0 (get_or l.prev x no_ends).x0 v l

abbrev out2 : ℕ → ℕ → Edge → Edge → List Pair → pool.Links → pool.Links
out2 n x e f v l = unlink_from n f (get_or l.next x no_ends).x1 (get_or l.prev x no_ends).x1 v (out1 n x e v l)

module _ (n : ℕ) (p : Pool) (s : Store) (h : Stored n p s) (rep : lists n p s) (j : ℕ) (i : j < length s.dense) where
  abbrev rec : Rec
  rec = get_or s.dense j no_rec

  d10 : eq_edge rec.e1 rec.e0 ≡ false
  d10 = eq_edge_sym rec.e1 rec.e0 ∙ differ (h.sound j i)

  slot_lt : rec.slot < n * (n - 1)
  slot_lt = omega (arith, slot_below s h.numbered j i, h.room)

  next0_is : (get_or p.links.next rec.slot no_ends).x0 ≡ (view n p.edges p.links).next rec.e0 rec.slot
  next0_is = sym (along_first n p.edges rec (h.sound j i) (h.held j i) p.links.next)

  prev0_is : (get_or p.links.prev rec.slot no_ends).x0 ≡ (view n p.edges p.links).prev rec.e0 rec.slot
  prev0_is = sym (along_first n p.edges rec (h.sound j i) (h.held j i) p.links.prev)

  next1_is : (get_or p.links.next rec.slot no_ends).x1 ≡ (view n p.edges p.links).next rec.e1 rec.slot
  next1_is = sym (along_second n p.edges rec (h.sound j i) (h.held j i) p.links.next)

  prev1_is : (get_or p.links.prev rec.slot no_ends).x1 ≡ (view n p.edges p.links).prev rec.e1 rec.slot
  prev1_is = sym (along_second n p.edges rec (h.sound j i) (h.held j i) p.links.prev)

  near : (g : Edge) → Placed n g → names g rec ≡ true
      → ((view n p.edges p.links).prev g rec.slot ≢ none → Near n p.edges g ((view n p.edges p.links).prev g rec.slot))
      × ((view n p.edges p.links).next g rec.slot ≢ none → Near n p.edges g ((view n p.edges p.links).next g rec.slot))
  near g pg named = (
    near_prev n p.edges s h.numbered h.room h.sound h.held (view n p.edges p.links) g (rep g pg) j i named,
    near_next n p.edges s h.numbered h.room h.sound h.held (view n p.edges p.links) g (rep g pg) j i named,
  )

  as_read : (g : Edge) (y z : ℕ) → y ≡ z → (z ≢ none → Near n p.edges g z) → y ≢ none → Near n p.edges g y
  as_read g y z q f u = subst⁻¹ (Near n p.edges g) q (f (λ w. u (q ∙ w)))

  near_p0 : (get_or p.links.prev rec.slot no_ends).x0 ≢ none → Near n p.edges rec.e0 (get_or p.links.prev rec.slot no_ends).x0
  near_p0 = as_read rec.e0 _ _ prev0_is (near rec.e0 (placed (h.sound j i).first) (names_first rec.e0 rec (eq_edge_refl rec.e0))).0

  near_n0 : (get_or p.links.next rec.slot no_ends).x0 ≢ none → Near n p.edges rec.e0 (get_or p.links.next rec.slot no_ends).x0
  near_n0 = as_read rec.e0 _ _ next0_is (near rec.e0 (placed (h.sound j i).first) (names_first rec.e0 rec (eq_edge_refl rec.e0))).1

  near_p1 : (get_or p.links.prev rec.slot no_ends).x1 ≢ none → Near n p.edges rec.e1 (get_or p.links.prev rec.slot no_ends).x1
  near_p1 = as_read rec.e1 _ _ prev1_is (near rec.e1 (placed (h.sound j i).second) (names_second rec.e1 rec (eq_edge_refl rec.e1))).0

  near_n1 : (get_or p.links.next rec.slot no_ends).x1 ≢ none → Near n p.edges rec.e1 (get_or p.links.next rec.slot no_ends).x1
  near_n1 = as_read rec.e1 _ _ next1_is (near rec.e1 (placed (h.sound j i).second) (names_second rec.e1 rec (eq_edge_refl rec.e1))).1

  spot_is : get_or p.order.reverse rec.slot 0 ≡ j
  spot_is = h.reverse j i

  last_is : get_or p.order.dense (p.counts.live - 1) 0 ≡ (get_or s.dense (length s.dense - 1) no_rec).slot
  last_is = ap (λ (m : ℕ). get_or p.order.dense (m - 1) 0) h.live ∙ h.order (length s.dense - 1) (omega arith)

  -- the record is one of those that name its edges
  named : (g : Edge) → names g rec ≡ true → 0 < tangle g s
  named g is = omega (arith, count_at (names g) s.dense j no_rec i is)

  pub remove_ok : RemoveOk n rec.slot p
  remove_ok =
      let w : rec.slot < n * (n - 1) = slot_lt in
      let z = h.sizes in
      let o0 : Proper n (end0 p.edges rec.slot) = subst⁻¹ (Proper n) (h.held j i).0 (h.sound j i).first in
      let o1 : Proper n (end1 p.edges rec.slot) = subst⁻¹ (Proper n) (h.held j i).1 (h.sound j i).second in
      record {
        in_edges = inside_of w z.in_edges;
        in_next = inside_of w z.in_next;
        in_free = omega (arith, h.freed, h.room, z.in_free);
        drops = record {
          some = omega (arith, h.live);
          within = inside_of w z.in_reverse;
          few = omega (arith, h.live, h.room, z.in_dense);
          spot = omega (arith, spot_is, h.room, z.in_dense);
          last = omega (arith, last_is, slot_below s h.numbered (length s.dense - 1) (omega arith), h.room, z.in_reverse);
        };
        unlink0 = record {
          head = head_ok h.small o0 z.in_heads;
          first = end_ok _ (n * (n - 1)) (λ u. (near_p0 u).below) z.in_edges z.in_next;
          second = end_ok _ (n * (n - 1)) (λ u. (near_n0 u).below) z.in_edges z.in_prev;
        };
        unlink1 = record {
          head = head_ok h.small o1 z.in_heads;
          first = end_ok _ (n * (n - 1)) (λ u. (near_p1 u).below) z.in_edges z.in_next;
          second = end_ok _ (n * (n - 1)) (λ u. (near_n1 u).below) z.in_edges z.in_prev;
        };
        lowers = record {
          first = can_lower h o0 (rw (h.held j i).0 (named rec.e0 (names_first rec.e0 rec (eq_edge_refl rec.e0))));
          second = can_lower h o1 (rw (h.held j i).1 (named rec.e1 (names_second rec.e1 rec (eq_edge_refl rec.e1))));
          apart = rw ((h.held j i).0, (h.held j i).1) (differ (h.sound j i));
        };
      }

  out_is : Same (Placed n) (At p.edges) (view n p.edges (out2 n rec.slot rec.e0 rec.e1 p.edges p.links)) (remove_links none (Placed n) rec (view n p.edges p.links))
  out_is =
      let v : List Pair = p.edges in
      let l : pool.Links = p.links in
      let x : ℕ = rec.slot in
      let k : Links = view n v l in
      let p0 : Placed n rec.e0 = placed (h.sound j i).first in
      let p1 : Placed n rec.e1 = placed (h.sound j i).second in
      let v1 : At v rec.e1 x = rw ((h.held j i).0, (h.held j i).1) (record { apart = differ (h.sound j i); one_of = λ _. refl }) in
      let long : Long (n * (n - 1)) l = long_sized h.sizes in
      let l1 : pool.Links = out1 n x rec.e0 v l in
      let long1 : Long (n * (n - 1)) l1 = long_unlink (n * (n - 1)) n rec.e0 (get_or l.next x no_ends).x0 (get_or l.prev x no_ends).x0 v l long in
      let S1 : Same (Placed n) (At v) (view n v l1) (unlink none rec.e0 x k)
      = unlink_is n v l long.heads rec.e0 p0 x (get_or l.prev x no_ends).x0 (get_or l.next x no_ends).x0 prev0_is next0_is
      (λ u. reach l.next long.next (near_p0 u))
      (λ u. reach l.prev long.prev (near_n0 u)) in
      let S2 : Same (Placed n) (At v) (view n v (out2 n x rec.e0 rec.e1 v l)) (unlink none rec.e1 x (view n v l1))
      = unlink_is n v l1 long1.heads rec.e1 p1 x (get_or l.prev x no_ends).x1 (get_or l.next x no_ends).x1
      (prev1_is ∙ sym (S1.prevs rec.e1 x v1 ∙ other_prev rec.e0 rec.e1 x x k d10))
      (next1_is ∙ sym (S1.nexts rec.e1 x v1 ∙ other_next rec.e0 rec.e1 x x k d10))
      (λ u. reach l1.next long1.next (near_p1 u))
      (λ u. reach l1.prev long1.prev (near_n1 u)) in
      let S3 : Same (Placed n) (At v) (unlink none rec.e1 x (view n v l1)) (remove_links none (Placed n) rec k)
      = unlink_same (Placed n) (At v) none rec.e1 x (view n v l1) (unlink none rec.e0 x k) v1 p1 S1 in
      same_then (Placed n) (At v) (view n v (out2 n x rec.e0 rec.e1 v l)) (unlink none rec.e1 x (view n v l1)) (remove_links none (Placed n) rec k) S2 S3

  abbrev left : Store
  left = remove_found (at_place j rec) s

  len : suc (length (swap_remove s.dense j)) ≡ length s.dense
  len = swap_remove_length s.dense j i

  lists_remove : Rep none (Placed n) left (view n p.edges (out2 n rec.slot rec.e0 rec.e1 p.edges p.links))
  lists_remove =
      let cap = cap_small h.small in
      rep_same n p.edges left (remove_links none (Placed n) rec (view n p.edges p.links)) (view n p.edges (out2 n rec.slot rec.e0 rec.e1 p.edges p.links)) (numbered_kept.on_remove j s i h.numbered)
      (omega (arith, len, h.room))
      (each_remove (Sound n) s.dense j i h.sound)
      (each_remove (HeldIn p.edges) s.dense j i h.held)
      out_is
      (rep_remove none (Placed n) s (view n p.edges p.links) j i (differ (h.sound j i)) (placed (h.sound j i).first) (placed (h.sound j i).second) h.numbered (omega (arith, h.room, cap)) rep)

  order_remove : InOrder (set p.order.dense j (get_or s.dense (length s.dense - 1) no_rec).slot) (swap_remove s.dense j)
  order_remove m u =
      let d : List Rec = s.dense in
      let z : m < length d - 1 = omega (arith, len) in
      both (true_or_false (eqb m j))
      (λ w.
      let q : m ≡ j = eqb-true m j w in
      let jz : j < length d - 1 = omega arith in
      ap (λ (y : ℕ). get_or (set p.order.dense j (get_or d (length d - 1) no_rec).slot) y 0) q
      ∙ get_or-set_same p.order.dense j (get_or d (length d - 1) no_rec).slot 0 (omega (arith, h.room, h.sizes.in_dense))
      ∙ sym (ap (λ (y : ℕ). (get_or (swap_remove d j) y no_rec).slot) q ∙ ap slot_of (swap_here d j i jz)))
      (λ w.
      let q : m ≢ j = eqb-false m j w in
      get_or-set_other p.order.dense j m (get_or d (length d - 1) no_rec).slot 0 q
      ∙ h.order m (omega arith)
      ∙ sym (ap slot_of (swap_other d j m i z q)))

  -- one record less names each of its two edges
  tangled_remove : {e f : Edge} → e ≡ rec.e0 → f ≡ rec.e1 → (g : Edge) → Placed n g → tangle_at n g (lowered n f (lowered n e p.tangles)) ≡ tangle g left
  tangled_remove {e} {f} ee ef g pg =
      let l : List ℕ = lowered n rec.e0 p.tangles in
      let long : length l ≡ n * (n - 1) = length_lowered n rec.e0 p.tangles ∙ h.sizes.in_tangles in
      rw (ee, ef)
      (omega (
        arith,
        lower_at n l rec.e1 g (omega (arith, long)) (placed (h.sound j i).second) pg,
        lower_at n p.tangles rec.e0 g (omega (arith, h.sizes.in_tangles)) (placed (h.sound j i).first) pg,
        h.tangled g pg,
        count_swap (names g) s.dense j i,
        names_two g rec (differ (h.sound j i)),
      ))

  stored_remove : Stored n (pool_remove n rec.slot p) left
  unfolding pool_remove dense_remove
  stored_remove =
      record {
        small = h.small;
        sizes = sized_same (sizes_remove n rec.slot p) h.sizes;
        numbered = numbered_kept.on_remove j s i h.numbered;
        room = omega (arith, len, h.room);
        sound = each_remove (Sound n) s.dense j i h.sound;
        live = omega (arith, len, h.live);
        freed = omega (arith, h.freed);
        grew = omega (arith, len, h.grew);
        order = rw (spot_is, last_is) order_remove;
        reverse = rw (spot_is, last_is) (reverse_remove s j p.order.reverse h.numbered i (omega (arith, h.room, h.sizes.in_reverse)) h.reverse);
        frees = subst⁻¹ (λ (f : List ℕ). Stack f (rec.slot ∷ s.free)) (rw h.freed refl) (get_or-set_same p.free (length s.free) rec.slot 0 (omega (arith, h.room, h.sizes.in_free)), stack_set p.free (length s.free) rec.slot s.free (omega arith) h.frees);
        held = each_remove (HeldIn p.edges) s.dense j i h.held;
        pushed = h.pushed;
        aged = each_remove (AgedIn p.ages) s.dense j i h.aged;
        tangled = tangled_remove (h.held j i).0 (h.held j i).1;
      }

  lists_removed : lists n (pool_remove n rec.slot p) left
  unfolding pool_remove
  lists_removed =
      subst⁻¹ (λ (e : Edge). Rep none (Placed n) left (view n p.edges (out2 n rec.slot e (end1 p.edges rec.slot) p.edges p.links))) (h.held j i).0
      (subst⁻¹ (λ (f : Edge). Rep none (Placed n) left (view n p.edges (out2 n rec.slot rec.e0 f p.edges p.links))) (h.held j i).1 lists_remove)

  holds_removed : Holds n (pool_remove n rec.slot p) left
  holds_removed = holds_of n (pool_remove n rec.slot p) left stored_remove lists_removed

-- buffers that hold a store, after a removal, hold the store after the removal
pub holds_remove : (n : ℕ) (p : Pool) (s : Store) → Holds n p s → (j : ℕ) → j < length s.dense
    → Holds n (pool_remove n (get_or s.dense j no_rec).slot p) (remove_found (at_place j (get_or s.dense j no_rec)) s)
holds_remove n p s h j i = holds_removed n p s h.stored (lists_of n p s h) j i

-- ---- all the records of an edge, newest first
module _ (n : ℕ) (e : Edge) (pe : Proper n e) where
  abbrev Both : ℕ → Pool → Store → Type 0
  Both f p s = Drained n e p × Holds n (pool_remove_all n e f p) (remove_all_fuel f e s)

  empty : (f : ℕ) (p : Pool) (s : Store) → Holds n p s → newest_from e 0 s.dense ≡ nothing → head_at n e p.links.heads ≡ none → Both f p s
  empty f p s h q z = (
    Drained.empty z,
    subst⁻¹ (λ (t : Store). Holds n (pool_remove_all n e f p) t) (stays f e s q) (subst⁻¹ (λ (t : Pool). Holds n t s) (all_none n e f p z) h),
  )

  head_is : (p : Pool) (s : Store) → Holds n p s → head_at n e p.links.heads ≡ slot_found none (newest_from e 0 s.dense)
  head_is p s h = head_newest none s.dense (view n p.edges p.links) e (lists_of n p s h e (placed pe))

  turn : (f : ℕ) (p : Pool) (s : Store) → Holds n p s → length s.dense ≤ suc f → ((p' : Pool) (s' : Store) → Holds n p' s' → length s'.dense ≤ f → Both f p' s') → Both (suc f) p s
  turn f p s h u again = go (newest_from e 0 s.dense) refl (newest_is e 0 s.dense) (head_is p s h)
    where
      go : (x : Found) → newest_from e 0 s.dense ≡ x → Newest e 0 s.dense x → head_at n e p.links.heads ≡ slot_found none x → Both (suc f) p s
      go nothing q t z = empty (suc f) p s h q z
      go (at_place k r) q t z =
          let j : t.place ≡ k = omega arith in
          let i : k < length s.dense = omega (arith, t.inside) in
          let there : get_or s.dense k no_rec ≡ r = ap (λ (m : ℕ). get_or s.dense m no_rec) (sym j) ∙ t.there in
          let hd : head_at n e p.links.heads ≡ (get_or s.dense k no_rec).slot = z ∙ ap slot_of (sym there) in
          let ne : head_at n e p.links.heads ≢ none = λ w. not_none n p s h.stored k i (sym hd ∙ w) in
          let s' : Store = remove_found (newest_from e 0 s.dense) s in
          let same : remove_found (at_place k (get_or s.dense k no_rec)) s ≡ s' = ap (λ (y : Rec). remove_found (at_place k y) s) there ∙ ap (λ (y : Found). remove_found y s) (sym q) in
          let h' : Holds n (pool_remove n (head_at n e p.links.heads) p) s'
          = subst⁻¹ (λ (y : ℕ). Holds n (pool_remove n y p) s') hd (subst (Holds n (pool_remove n (get_or s.dense k no_rec).slot p)) same (holds_remove n p s h k i)) in
          let len' : length s'.dense ≤ f = omega (arith, ap (λ (y : Store). length y.dense) same, swap_remove_length s.dense k i) in
          let r' : Both f (pool_remove n (head_at n e p.links.heads) p) s' = again (pool_remove n (head_at n e p.links.heads) p) s' h' len' in (
            Drained.some ne (subst⁻¹ (λ (y : ℕ). RemoveOk n y p) hd (remove_ok n p s h.stored (lists_of n p s h) k i)) r'.0,
            subst⁻¹ (λ (y : Pool). Holds n y (remove_all_fuel f e s')) (all_suc n e f p ne) r'.1,
          )

  drain : (f : ℕ) (p : Pool) (s : Store) → Holds n p s → length s.dense ≤ f → Both f p s
  drain zero p s h u = go (newest_from e 0 s.dense) refl (newest_is e 0 s.dense) (head_is p s h)
    where
      go : (x : Found) → newest_from e 0 s.dense ≡ x → Newest e 0 s.dense x → head_at n e p.links.heads ≡ slot_found none x → Both zero p s
      go nothing q t z = empty zero p s h q z
      go (at_place k r) q t z = absurd (omega (arith, t.inside))
  drain (suc f) p s h u = turn f p s h u (drain f)

  -- ---- what a caller uses: all of e can be removed, and then the buffers hold the store without them
  module _ (p : Pool) (s : Store) (h : Holds n p s) where
    pub drained : Drained n e p
    drained = (drain (length s.dense) p s h (omega arith)).0

    pub head_there : HeadOk n e p.links.heads
    head_there = head_ok h.stored.small pe h.stored.sizes.in_heads

    pub holds_remove_all : Holds n (pool_remove_all n e p.counts.live p) (plain.remove_all e s)
    holds_remove_all = subst⁻¹ (λ (f : ℕ). Holds n (pool_remove_all n e f p) (plain.remove_all e s)) h.stored.live (drain (length s.dense) p s h (omega arith)).1

-- ---- the loop of the code: p is what is left of the pool p₀ that it began with
pub record Left (n : ℕ) (e : Edge) (p₀ p : Pool) : Type 0 where
  pub head : HeadOk n e p.links.heads
  pub drained : Drained n e p
  pub all : pool_remove_all n e p.counts.live p ≡ pool_remove_all n e p₀.counts.live p₀

pub left_start : {n : ℕ} {e : Edge} (p : Pool) (s : Store) → Proper n e → Holds n p s → Left n e p p
left_start {n} {e} p s pe h = record { head = head_there n e pe p s h; drained = drained n e pe p s h; all = refl }

module _ {n : ℕ} {e : Edge} {p₀ p : Pool} (l : Left n e p₀ p) {m : ℕ} (em : m ≡ n) where
  pub left_head : HeadOk m e p.links.heads
  left_head = rw em l.head

  pub left_none : (s : Store) → Proper n e → Holds n p₀ s → none ≡ head_at m e p.links.heads → Holds n p (plain.remove_all e s)
  left_none s pe h z =
      rw (sym (all_none n e p.counts.live p (sym (rw em at z))) ∙ l.all) (holds_remove_all n e pe p₀ s h)

  -- while there is a record x at the head, it can be removed
  module _ {x : ℕ} (z : x ≡ head_at m e p.links.heads) (some : x < none) where
    there : x ≡ head_at n e p.links.heads
    there = rw em at z

    some_head : head_at n e p.links.heads ≢ none
    some_head q = omega (arith, there, q)

    next : RemoveOk n (head_at n e p.links.heads) p × Drained n e (pool_remove n (head_at n e p.links.heads) p)
    next = drained_next l.drained some_head

    pub left_some : RemoveOk m x p
    left_some = rw (em, there) next.0

    module _ {q : Pool} (eq : q ≡ pool_remove m x p) where
      gone : q ≡ pool_remove n (head_at n e p.links.heads) p
      gone = rw (eq, em, there)

      pub left_fewer : q.counts.live < p.counts.live
      left_fewer = omega (arith, ap (λ (r : Pool). r.counts.live) gone ∙ live_remove n (head_at n e p.links.heads) p, next.0.drops.some)

      pub left_next : Left n e p₀ q
      left_next =
          let h : ℕ = head_at n e p.links.heads in
          let z = ap (λ (r : Pool). length r.links.heads) gone ∙ (sizes_remove n h p).heads in
          record {
            head = record { small = l.head.small; edge = l.head.edge; place = rw z l.head.place };
            drained = subst⁻¹ (Drained n e) gone next.1;
            all = (λ i. pool_remove_all n e (gone i).counts.live (gone i)) ∙ ap (λ (j : ℕ). pool_remove_all n e j (pool_remove n h p)) (live_remove n h p) ∙ sym (all_some n e p.counts.live p next.0.drops.some some_head) ∙ l.all;
          }
