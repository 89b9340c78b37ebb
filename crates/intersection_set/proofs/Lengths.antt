-- What the steps of the pool leave as it was: the lengths of its lists; and that a step stays inside them.
use mathlib.Core.Path.{◌≡◌, refl, sym, ap, ◌∙◌}
use mathlib.Core.Logic.{◌≢◌}
use mathlib.Core.List.{List}
use mathlib.Core.Bool.{Bool, true, false, cond}
use Prim.Native.Nat.{ℕ, zero, suc, ◌+◌, ◌-◌, ◌*◌, ◌<◌, ◌≤◌}
use native.Mathlib.Nat.{mul-le-mul}
use native.Mathlib.Omega.{arith}
use lib.Dec.{eqb}
use lib.ListN.{length, get_or, set, length-set}
use lib.Seq.{get_or-set_same, get_or-set_other, set-set}
use borrow.Author.Tests.{eqb-true, eqb-false, eq-eqb, ne_eqb}
use Rattle.std.proofs.lemmas.Bool.{cond_both}
use Rattle.algebra.specs.Cases.{both, eq_cases}
use Rattle.index_edge.specs.Edge.{Edge, eq_edge}
use Rattle.index_edge.proofs.Edges.{eq_edge_refl, eq_edge_sym}
use Rattle.intersection_set.specs.Lists.{none, head_place}
use Rattle.intersection_set.specs.Pool.{Taken, Ends, ends, no_ends, Pair, pair, no_pair, Links, Order, Pool, counts_of, take_slot, dense_push, dense_remove, end0, end1, put_end, set_end, head_at, link_front, set_head, unlink_from, raised, lowered, put_edges, put_ends, clear_ends, pool_push, pool_remove, pool_remove_all}
use Rattle.intersection_set.specs.Within.{Proper, TakeOk, AppendOk, EndOk, HeadOk, UnlinkOk, Sized, Good, PushOk, RemoveOk, Drained}
use Rattle.intersection_set.specs.declared.utils.Counts.{Counts}
use Rattle.intersection_set.proofs.HeadPlaces.{placed, head_below}

-- 256 points have at most 65,280 records
pub cap_small : {n : ℕ} → n ≤ 256 → n * (n - 1) ≤ 65280
cap_small {n} h = let k : n - 1 ≤ 255 = omega arith in mul-le-mul h k

-- what is below the number of entries is inside
pub inside_of : {i m k : ℕ} → i < m → k ≡ m → i < k
inside_of h e = omega arith

pub place_lt : (n : ℕ) (e : Edge) → Proper n e → head_place n e < n * (n - 1)
place_lt n e ok = head_below n e (placed ok)

-- ---- the slot that a push takes is in range
pub slot_lt : (n : ℕ) (p : Pool) → Good n p → p.counts.live < n * (n - 1) → (take_slot p.counts p.free).slot < n * (n - 1)
unfolding take_slot
slot_lt n p g room = go (eqb p.counts.freed 0) refl
  where
    go : (b : Bool) → eqb p.counts.freed 0 ≡ b → (cond {A = Taken} b
        (record { slot = p.counts.grown; counts = counts_of (p.counts.live + 1) (p.counts.grown + 1) 0 p.counts.pushes })
        (record { slot = get_or p.free (p.counts.freed - 1) 0; counts = counts_of (p.counts.live + 1) p.counts.grown (p.counts.freed - 1) p.counts.pushes })).slot < n * (n - 1)
    go true h = let z = eqb-true p.counts.freed 0 h in let s = g.split in omega arith
    go false h = let z = eqb-false p.counts.freed 0 h in g.frees (p.counts.freed - 1) (omega arith)

-- taking a slot is no push yet
pub taken_pushes : (c : Counts) (free : List ℕ) → (take_slot c free).counts.pushes ≡ c.pushes
unfolding take_slot
taken_pushes c free = cond_both (eqb c.freed 0) _ _ (λ (t : Taken). t.counts.pushes ≡ c.pushes) (λ _. refl) (λ _. refl)

pub take_ok : (n : ℕ) (p : Pool) → Good n p → TakeOk p.counts p.free
take_ok n p g =
    let k = cap_small g.small in
    record {
      few = omega (arith, g.split, g.bound, g.sizes.in_free);
      small = omega (arith, g.bound);
      lived = omega (arith, g.split, g.bound);
    }

-- ---- lengths
pub len_ends : (s : ℕ) (e : Edge) (v : ℕ) (w : List Pair) (x : List Ends) → length (set_end s e v w x) ≡ length x
unfolding set_end
len_ends s e v w x = go (eqb s none)
  where
    go : (b : Bool) → length (cond b x (set x s (put_end (eq_edge e (end0 w s)) v (get_or x s no_ends)))) ≡ length x
    go true = refl
    go false = length-set x s (put_end (eq_edge e (end0 w s)) v (get_or x s no_ends))

pub len_head : (n : ℕ) (e : Edge) (x v : ℕ) (hs : List ℕ) → length (set_head n e x v hs) ≡ length hs
unfolding set_head
len_head n e x v hs = go (eqb v none)
  where
    go : (b : Bool) → length (cond b (set hs (head_place n e) x) hs) ≡ length hs
    go true = length-set hs (head_place n e) x
    go false = refl

pub end_ok : {w : List Pair} {x : List Ends} (s cap : ℕ) → (s ≢ none → s < cap) → length w ≡ cap → length x ≡ cap → EndOk s w x
end_ok s cap h p q = record { in_edges = λ z. inside_of (h z) p; in_ends = λ z. inside_of (h z) q }

pub head_ok : {n : ℕ} {e : Edge} {heads : List ℕ} → n ≤ 256 → Proper n e → length heads ≡ n * (n - 1) → HeadOk n e heads
head_ok {n} {e} small ok long = record { small = small; edge = ok; place = inside_of (place_lt n e ok) long }

-- a head after a store: what stood there, or the slot that was stored
pub head_set : (hs : List ℕ) (i j v cap : ℕ) → i < length hs → v < cap → (get_or hs j 0 ≢ none → get_or hs j 0 < cap) → get_or (set hs i v) j 0 ≢ none → get_or (set hs i v) j 0 < cap
head_set hs i j v cap hi hv h z =
    both (eq_cases j i) (λ e. rw (e.0, get_or-set_same hs i v 0 hi) hv)
    (λ q. let w = get_or-set_other hs i j v 0 q.0 in rw w (h (λ y. z (w ∙ y))))

-- ---- a push stays inside
module _ (n : ℕ) (e0 e1 : Edge) (p : Pool) (s : ℕ) (ok : PushOk n e0 e1 p) (hs : s < n * (n - 1)) where
  pub append_ok : AppendOk s p.counts.live p.order
  append_ok =
      let k = cap_small ok.good.small in
      record { fits = omega (arith, ok.room); in_dense = inside_of ok.room ok.good.sizes.in_dense; in_reverse = inside_of hs ok.good.sizes.in_reverse }

  pub edges_ok : s < length p.edges
  edges_ok = inside_of hs ok.good.sizes.in_edges

  pub links_ok : s < length p.links.next
  links_ok = inside_of hs ok.good.sizes.in_next

  -- the old head of the first list may be linked
  old_written : EndOk (head_at n e0 p.links.heads) (put_edges s e0 e1 p.edges) (clear_ends s p.links.prev)
  unfolding put_edges clear_ends
  old_written =
      let g = ok.good in
      let z = g.sizes in
      end_ok _ (n * (n - 1)) (g.head e0 ok.edge0) (simp length-set z.in_edges) (simp length-set z.in_prev)

  -- and then that of the second
  old_linked : EndOk (head_at n e1 (set p.links.heads (head_place n e0) s)) (put_edges s e0 e1 p.edges)
      (set_end (head_at n e0 p.links.heads) e0 s (put_edges s e0 e1 p.edges) (clear_ends s p.links.prev))
  unfolding put_edges clear_ends
  old_linked =
      let g = ok.good in
      let z = g.sizes in
      let h0 = inside_of (place_lt n e0 ok.edge0) z.in_heads in
      end_ok _ (n * (n - 1)) (head_set p.links.heads (head_place n e0) (head_place n e1) s (n * (n - 1)) h0 hs (g.head e1 ok.edge1)) (simp length-set z.in_edges) (simp (len_ends, length-set) z.in_prev)

  -- the same of what the code's steps leave
  module _ {v : List Pair} {y : List Ends} {m0 : ℕ} (ev : v ≡ put_edges s e0 e1 p.edges) (ey : y ≡ clear_ends s p.links.prev) (e0h : m0 ≡ head_at n e0 p.links.heads) where
    pub old_ok : EndOk m0 v y
    old_ok = rw (e0h, ev, ey) old_written

    pub old_ok_2 : {h : List ℕ} {z : List Ends} {m1 : ℕ} → h ≡ set p.links.heads (head_place n e0) s → m1 ≡ head_at n e1 h → z ≡ set_end m0 e0 s v y → EndOk m1 v z
    old_ok_2 eh e1h ez = rw (e1h, eh, ez, e0h, ev, ey) old_linked

  slot_some : s ≢ none
  slot_some q = omega (arith, hs, q, cap_small ok.good.small)

  -- The new record's first edge is its end 0, the other its end 1: the code need not read back which end is meant.
  at_slot : end0 (set p.edges s (pair e0 e1)) s ≡ e0
  at_slot = ap (λ (k : Pair). k.e0) (get_or-set_same p.edges s (pair e0 e1) no_pair edges_ok)

  ends_first : (v : ℕ) (x : List Ends) → set_end s e0 v (put_edges s e0 e1 p.edges) x ≡ set x s (ends v (get_or x s no_ends).x1)
  unfolding set_end put_edges
  ends_first v x = rw (ne_eqb s none slot_some, at_slot, eq_edge_refl e0)

  ends_second : (v : ℕ) (x : List Ends) → set_end s e1 v (put_edges s e0 e1 p.edges) x ≡ set x s (ends (get_or x s no_ends).x0 v)
  unfolding set_end put_edges
  ends_second v x = let d : eq_edge e1 e0 ≡ false = eq_edge_sym e1 e0 ∙ ok.differ in rw (ne_eqb s none slot_some, at_slot, d)

  -- Its `next` is written once: clearing it before changes nothing.
  pub next_once : (h0 h1 : ℕ) → put_ends s h0 h1 p.links.next ≡ set_end s e1 h1 (put_edges s e0 e1 p.edges) (set_end s e0 h0 (put_edges s e0 e1 p.edges) (clear_ends s p.links.next))
  unfolding clear_ends put_ends
  next_once h0 h1 =
      let x = p.links.next in
      let y = set x s (ends none none) in
      let z = set y s (ends h0 (get_or y s no_ends).x1) in
      let iy : s < length y = simp length-set links_ok in
      let q : (get_or z s no_ends).x0 ≡ h0 = ap (λ (k : Ends). k.x0) (get_or-set_same y s (ends h0 (get_or y s no_ends).x1) no_ends iy) in
      sym (ap (set_end s e1 h1 (put_edges s e0 e1 p.edges)) (ends_first h0 y) ∙ ends_second h1 z ∙ ap (λ (k : ℕ). set z s (ends k h1)) q ∙ set-set y s _ (ends h0 h1) ∙ set-set x s (ends none none) (ends h0 h1))

-- ---- two pools whose lists are as long as each other
pub record SameSize (p q : Pool) : Type 0 where
  pub heads : length p.links.heads ≡ length q.links.heads
  pub next : length p.links.next ≡ length q.links.next
  pub prev : length p.links.prev ≡ length q.links.prev
  pub edges : length p.edges ≡ length q.edges
  pub ages : length p.ages ≡ length q.ages
  pub dense : length p.order.dense ≡ length q.order.dense
  pub reverse : length p.order.reverse ≡ length q.order.reverse
  pub free : length p.free ≡ length q.free
  pub tangles : length p.tangles ≡ length q.tangles

pub sized_same : {n : ℕ} {p q : Pool} → SameSize q p → Sized n p → Sized n q
sized_same z g =
    record {
      in_heads = rw z.heads g.in_heads;
      in_next = rw z.next g.in_next;
      in_prev = rw z.prev g.in_prev;
      in_edges = rw z.edges g.in_edges;
      in_ages = rw z.ages g.in_ages;
      in_dense = rw z.dense g.in_dense;
      in_reverse = rw z.reverse g.in_reverse;
      in_free = rw z.free g.in_free;
      in_tangles = rw z.tangles g.in_tangles;
    }

pub sizes_push : (n : ℕ) (e0 e1 : Edge) (p : Pool) → SameSize (pool_push n e0 e1 p) p
unfolding pool_push link_front put_edges clear_ends dense_push raised
sizes_push n e0 e1 p =
    record {
      heads = simp length-set;
      next = simp (len_ends, length-set);
      prev = simp (len_ends, length-set);
      edges = simp length-set;
      ages = simp length-set;
      dense = simp length-set;
      reverse = simp length-set;
      free = refl;
      tangles = simp length-set;
    }

pub sizes_remove : (n s : ℕ) (p : Pool) → SameSize (pool_remove n s p) p
unfolding pool_remove unlink_from dense_remove lowered
sizes_remove n s p =
    record {
      heads = simp len_head;
      next = simp len_ends;
      prev = simp len_ends;
      edges = refl;
      ages = refl;
      dense = simp length-set;
      reverse = simp length-set;
      free = length-set p.free p.counts.freed s;
      tangles = simp length-set;
    }

-- ---- the steps of the code, put together
module _ (n : ℕ) (e0 e1 : Edge) (p : Pool) (ok : PushOk n e0 e1 p) where
  pub slot_in : {s : ℕ} → s ≡ (take_slot p.counts p.free).slot → s < n * (n - 1)
  slot_in es = rw es (slot_lt n p ok.good ok.room)

  pub push_steps : {s : ℕ} {c : Counts} {o : Order} {v : List Pair} {h1 h2 : List ℕ} {m0 m1 : ℕ} {x0 x1 x2 y0 y1 y2 : List Ends}
      → s ≡ (take_slot p.counts p.free).slot
      → c ≡ (take_slot p.counts p.free).counts
      → o ≡ dense_push s p.counts.live p.order
      → (m0 ≡ head_at n e0 p.links.heads) × (h1 ≡ set p.links.heads (head_place n e0) s)
      → (m1 ≡ head_at n e1 h1) × (h2 ≡ set h1 (head_place n e1) s)
      → (v ≡ put_edges s e0 e1 p.edges) × (x0 ≡ put_ends s m0 m1 p.links.next) × (y0 ≡ clear_ends s p.links.prev)
      → (y1 ≡ set_end m0 e0 s v y0) × (x1 ≡ x0)
      → (y2 ≡ set_end m1 e1 s v y1) × (x2 ≡ x1)
      → {f : List ℕ} → f ≡ p.free
      → {a : List ℕ} → a ≡ p.ages
      → {k : List ℕ} → k ≡ raised n e1 (raised n e0 p.tangles)
      → ◌≡◌ {A = Pool}
      (record {
        edges = v;
        links = record { heads = h2; next = x2; prev = y2 };
        ages = set a s c.pushes;
        order = o;
        free = f;
        tangles = k;
        counts = counts_of c.live c.grown c.freed (c.pushes + 1);
      })
      (pool_push n e0 e1 p)
  unfolding pool_push link_front
  push_steps es ec eo t1 t2 w s1 s2 ef ea ek =
      let hs = slot_lt n p ok.good ok.room in
      rw (s2.0, s2.1, s1.0, s1.1, w.1, w.2, w.0, t2.0, t2.1, t1.0, t1.1, eo, ec, ef, ea, ek, es, next_once n e0 e1 p _ ok hs (head_at n e0 p.links.heads) (head_at n e1 (set p.links.heads (head_place n e0) (take_slot p.counts p.free).slot)))

-- what the code reads of the record that goes
pub record ReadAt (p : Pool) (s : ℕ) (e0 e1 : Edge) (n0 p0 n1 p1 : ℕ) : Type 0 where
  pub edge0 : e0 ≡ end0 p.edges s
  pub edge1 : e1 ≡ end1 p.edges s
  pub next0 : n0 ≡ (get_or p.links.next s no_ends).x0
  pub prev0 : p0 ≡ (get_or p.links.prev s no_ends).x0
  pub next1 : n1 ≡ (get_or p.links.next s no_ends).x1
  pub prev1 : p1 ≡ (get_or p.links.prev s no_ends).x1

pub read_at : (p : Pool) (s : ℕ) {e0 e1 : Edge} {n0 p0 n1 p1 : ℕ}
    → (e0 ≡ end0 p.edges s) × (e1 ≡ end1 p.edges s)
    → (n0 ≡ (get_or p.links.next s no_ends).x0) × (p0 ≡ (get_or p.links.prev s no_ends).x0) × (n1 ≡ (get_or p.links.next s no_ends).x1) × (p1 ≡ (get_or p.links.prev s no_ends).x1)
    → ReadAt p s e0 e1 n0 p0 n1 p1
read_at p s e l = record { edge0 = e.0; edge1 = e.1; next0 = l.0; prev0 = l.1; next1 = l.2; prev1 = l.3 }

module _ (n s : ℕ) (p : Pool) {e0 e1 : Edge} {n0 p0 n1 p1 : ℕ} (z : ReadAt p s e0 e1 n0 p0 n1 p1) where
  pub remove_steps : {o : Order} {f a k : List ℕ} {c : Counts} {l1 l2 : Links}
      → l1 ≡ unlink_from n e0 n0 p0 p.edges p.links
      → l2 ≡ unlink_from n e1 n1 p1 p.edges l1
      → o ≡ dense_remove s p.counts.live p.order
      → f ≡ set p.free p.counts.freed s
      → c ≡ counts_of (p.counts.live - 1) p.counts.grown (p.counts.freed + 1) p.counts.pushes
      → a ≡ p.ages
      → k ≡ lowered n e1 (lowered n e0 p.tangles)
      → ◌≡◌ {A = Pool} (record { edges = p.edges; links = l2; ages = a; order = o; free = f; tangles = k; counts = c }) (pool_remove n s p)
  unfolding pool_remove
  remove_steps el1 el2 eo ef ec ea ek = rw (el2, el1, eo, ef, ec, ea, ek, z.edge1, z.edge0, z.next0, z.prev0, z.next1, z.prev1)

-- ---- a removal stays inside: an unlinking leaves what another needs
unlink_still : {n : ℕ} {e : Edge} {x v : ℕ} {w : List Pair} {l : Links} (f : Edge) (y z : ℕ) → UnlinkOk n e x v w l → UnlinkOk n e x v w (unlink_from n f y z w l)
unfolding unlink_from
unlink_still f y z ok =
    record {
      head = record { small = ok.head.small; edge = ok.head.edge; place = simp len_head ok.head.place };
      first = record { in_edges = ok.first.in_edges; in_ends = λ u. simp len_ends (ok.first.in_ends u) };
      second = record { in_edges = ok.second.in_edges; in_ends = λ u. simp len_ends (ok.second.in_ends u) };
    }

module _ (n s : ℕ) (p : Pool) (ok : RemoveOk n s p) {e0 e1 : Edge} {n0 p0 n1 p1 : ℕ} (z : ReadAt p s e0 e1 n0 p0 n1 p1) where
  pub unlink_ok : UnlinkOk n e0 n0 p0 p.edges p.links
  unlink_ok = rw (z.edge0, z.next0, z.prev0) ok.unlink0

  pub unlink_ok_2 : {l : Links} → l ≡ unlink_from n e0 n0 p0 p.edges p.links → UnlinkOk n e1 n1 p1 p.edges l
  unlink_ok_2 t = rw (z.edge1, z.next1, z.prev1, t) (unlink_still e0 _ _ ok.unlink1)

-- ---- removing while there is one
pub live_remove : (n s : ℕ) (p : Pool) → (pool_remove n s p).counts.live ≡ p.counts.live - 1
unfolding pool_remove
live_remove n s p = refl

pub drained_next : {n : ℕ} {e : Edge} {p : Pool} → Drained n e p → head_at n e p.links.heads ≢ none → RemoveOk n (head_at n e p.links.heads) p × Drained n e (pool_remove n (head_at n e p.links.heads) p)
drained_next (Drained.empty q) z = absurd (z q)
drained_next (Drained.some y ok d) z = (ok, d)

module _ (n : ℕ) (e : Edge) where
  pub all_none : (k : ℕ) (p : Pool) → head_at n e p.links.heads ≡ none → pool_remove_all n e k p ≡ p
  unfolding pool_remove_all
  all_none zero p h = refl
  all_none (suc k) p h = simp (eq-eqb _ _ h)

  pub all_suc : (k : ℕ) (p : Pool) → head_at n e p.links.heads ≢ none → pool_remove_all n e (suc k) p ≡ pool_remove_all n e k (pool_remove n (head_at n e p.links.heads) p)
  unfolding pool_remove_all
  all_suc k p h = simp (ne_eqb _ _ h)

  pub all_some : (k : ℕ) (p : Pool) → 0 < k → head_at n e p.links.heads ≢ none → pool_remove_all n e k p ≡ pool_remove_all n e (k - 1) (pool_remove n (head_at n e p.links.heads) p)
  all_some zero p h z = absurd (omega arith)
  all_some (suc k) p h z = let w : suc k - 1 ≡ k = omega arith in rw w (all_suc k p z)
