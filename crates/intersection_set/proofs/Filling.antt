-- Records in another dense order: each edge's list is sorted by age, so heads and links stay, and only the dense order and its reverse are written anew.
use mathlib.Core.Path.{◌≡◌, refl, sym, ap, subst⁻¹, ◌∙◌}
use mathlib.Core.Bool.{true, ◌&&◌}
use mathlib.Core.List.{List, ◌++◌, map}
use Prim.Native.Nat.{ℕ, zero, suc, ◌+◌, ◌-◌, ◌*◌, ◌≤◌, ◌<◌}
use native.Mathlib.Omega.{arith}
use lib.Dec.{eqb, ltb}
use lib.ListN.{length, get_or, drop, length-append, length-drop, get_or-append}
use lib.Seq.{ext_get_or}
use Rattle.algebra.specs.Counting.{one, count_p, one_le, count_at, count_find, count_length}
use Rattle.algebra.specs.Ranges.{up_from, up_from_length}
use Rattle.index_edge.specs.Edge.{Edge}
use Rattle.intersection_set.specs.Store.{Rec, Store, no_rec, names}
use Rattle.intersection_set.specs.Numbered.{Numbered}
use Rattle.intersection_set.specs.Lists.{none, slot_of, list_of, first_or, after, before}
use Rattle.intersection_set.specs.Pool.{Order, order, Pool}
use Rattle.intersection_set.specs.Within.{Sized}
use Rattle.intersection_set.specs.Holds.{Each, Sound, HeldIn, AgedIn, InOrder, Reverse, LinkedIn, Holds}
use Rattle.intersection_set.specs.Filling.{Shuffled, reordered}
use Rattle.intersection_set.proofs.Chains.{eq_record, eq_record_refl, eq_record_true}
use Rattle.intersection_set.proofs.ByAge.{list_of_count, list_of_falling, falling_unique}

-- ---- 0, 1, 2, ..
from_at : (s n i : ℕ) → i < n → get_or (up_from s n) i 0 ≡ s + i
from_at s zero i h = absurd (omega arith)
from_at s (suc n) zero h = omega arith
from_at s (suc n) (suc i) h = from_at (suc s) n i (omega arith) ∙ omega arith

-- n entries that are their own places
pub numbered_off : (l : List ℕ) (n : ℕ) → length l ≡ n → ((k : ℕ) → k < n → get_or l k 0 ≡ k) → l ≡ up_from 0 n
numbered_off l n e h = ext_get_or 0 l (up_from 0 n) (e ∙ sym (up_from_length 0 n)) (λ k g. h k (omega arith) ∙ sym (from_at 0 n k (omega arith) ∙ omega arith))

-- they are written over the first entries of l
abbrev pub numbers : ℕ → List ℕ → List ℕ
numbers n l = up_from 0 n ++ drop n l

number_at : (n : ℕ) (t : List ℕ) (i : ℕ) → i < n → get_or (up_from 0 n ++ t) i 0 ≡ i
number_at n t i h = get_or-append (up_from 0 n) t 0 i (rw (up_from_length 0 n) h) ∙ from_at 0 n i h ∙ omega arith

-- ---- the same records in another order
module _ (d e : List Rec) (same : Shuffled d e) where
  pub same_length : length e ≡ length d
  same_length = sym (count_length e) ∙ same (λ _. true) ∙ count_length d

  -- what holds of each record of one holds of each of the other
  pub each_shuffled : (Q : Rec → Type 0) → Each Q d → Each Q e
  each_shuffled Q h j l =
      let r : Rec = get_or e j no_rec in
      let (k, i, z) = count_find (eq_record r) d no_rec (omega (arith, same (eq_record r), count_at (eq_record r) e j no_rec l (eq_record_refl r))) in
      subst⁻¹ Q (eq_record_true r (get_or d k no_rec) z) (h k i)

  -- an edge's list is the same
  list_shuffled : ((a : ℕ) → count_p (λ r. eqb a r.age) d ≤ 1) → (f : Edge) → list_of f e ≡ list_of f d
  list_shuffled ages f =
      falling_unique (list_of f e) (list_of f d) (list_of_falling f e (λ a. omega (arith, same (λ r. eqb a r.age), ages a))) (list_of_falling f d ages)
      (λ p. list_of_count f p e ∙ same (λ r. names f r && p r) ∙ sym (list_of_count f p d))

-- a pool in another dense order
abbrev pub with_order : Order → Pool → Pool
with_order o p = record p { order = o }

module _ (n : ℕ) (p : Pool) (s : Store) (e : List Rec) (same : Shuffled s.dense e) (h : Holds n p s) where
  len : length e ≡ length s.dense
  len = same_length s.dense e same

  lists : (f : Edge) → list_of f e ≡ list_of f s.dense
  lists = list_shuffled s.dense e same (λ a. omega (arith, h.stored.numbered.ages a, one_le (ltb a s.pushes) true (λ _. refl)))

  numbered_shuffled : Numbered (reordered e s)
  numbered_shuffled =
      record {
        ages = λ a. omega (arith, same (λ r. eqb a r.age), h.stored.numbered.ages a);
        slots = λ k. omega (arith, same (λ r. eqb k r.slot), h.stored.numbered.slots k, ap (λ (j : ℕ). one (ltb k (j + length s.free))) len);
      }

  linked_shuffled : (r : Rec) → LinkedIn p.links s r → LinkedIn p.links (reordered e s) r
  linked_shuffled r k =
      record {
        next0 = k.next0 ∙ sym (ap (λ (l : List Rec). after none r.slot (map slot_of l)) (lists r.e0));
        prev0 = k.prev0 ∙ sym (ap (λ (l : List Rec). before none r.slot (map slot_of l)) (lists r.e0));
        next1 = k.next1 ∙ sym (ap (λ (l : List Rec). after none r.slot (map slot_of l)) (lists r.e1));
        prev1 = k.prev1 ∙ sym (ap (λ (l : List Rec). before none r.slot (map slot_of l)) (lists r.e1));
      }

  -- Buffers that hold a store hold it in another dense order, once that and its reverse are written.
  pub holds_shuffled : (o : Order) → Sized n (with_order o p) → InOrder o.dense e → Reverse e o.reverse → Holds n (with_order o p) (reordered e s)
  holds_shuffled o sized order reverse =
      record {
        stored = record {
          small = h.stored.small;
          sizes = sized;
          numbered = numbered_shuffled;
          room = omega (arith, h.stored.room, len);
          sound = each_shuffled s.dense e same (Sound n) h.stored.sound;
          live = h.stored.live ∙ sym len;
          freed = h.stored.freed;
          grew = omega (arith, h.stored.grew, len);
          order = order;
          reverse = reverse;
          frees = h.stored.frees;
          held = each_shuffled s.dense e same (HeldIn p.edges) h.stored.held;
          pushed = h.stored.pushed;
          aged = each_shuffled s.dense e same (AgedIn p.ages) h.stored.aged;
          tangled = λ f pf. h.stored.tangled f pf ∙ sym (same (names f));
        };
        heads = λ f pf. h.heads f pf ∙ sym (ap (λ (l : List Rec). first_or none (map slot_of l)) (lists f));
        linked = each_shuffled s.dense e same (LinkedIn p.links (reordered e s)) (λ j l. linked_shuffled (get_or s.dense j no_rec) (h.linked j l));
      }

  module _ (slots : (j : ℕ) → j < length e → (get_or e j no_rec).slot ≡ j) where
    live_few : p.counts.live ≤ n * (n - 1)
    live_few = omega (arith, h.stored.live, h.stored.room)

    long : (l : List ℕ) → length l ≡ n * (n - 1) → length (numbers p.counts.live l) ≡ n * (n - 1)
    long l z =
        rw (length-append (up_from 0 p.counts.live) (drop p.counts.live l), up_from_length 0 p.counts.live, length-drop p.counts.live l)
        (omega (arith, live_few))

    in_place : (l : List ℕ) (j : ℕ) → j < length e → get_or (numbers p.counts.live l) j 0 ≡ j
    in_place l j i = number_at p.counts.live (drop p.counts.live l) j (omega (arith, h.stored.live, len))

    numbered_order : Holds n (with_order (order (numbers p.counts.live p.order.dense) (numbers p.counts.live p.order.reverse)) p) (reordered e s)
    numbered_order =
        let z = h.stored.sizes in
        holds_shuffled _
        (record {
          in_heads = z.in_heads;
          in_next = z.in_next;
          in_prev = z.in_prev;
          in_edges = z.in_edges;
          in_ages = z.in_ages;
          in_dense = long p.order.dense z.in_dense;
          in_reverse = long p.order.reverse z.in_reverse;
          in_free = z.in_free;
          in_tangles = z.in_tangles;
        })
        (λ j i. in_place p.order.dense j i ∙ sym (slots j i))
        (λ j i. ap (λ (k : ℕ). get_or (numbers p.counts.live p.order.reverse) k 0) (slots j i) ∙ in_place p.order.reverse j i)

    -- Where slots are dense places, 0, 1, 2, .. is the dense order and its reverse.
    pub holds_by_slot : {x y : List ℕ} → x ≡ numbers p.counts.live p.order.dense → y ≡ numbers p.counts.live p.order.reverse
        → Holds n (with_order (order x y) p) (reordered e s)
    holds_by_slot ex ey = rw (ex, ey) numbered_order
