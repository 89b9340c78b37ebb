-- What a query finds is what the plain scan finds, since edges that meet have boxes that share a place.
use Rattle.std.specs.Prelude.{◌≡◌, Bool, true, List, filter, ℕ, ◌≤◌, ◌<◌, ℤ, length, take}
use Rattle.std.proofs.Common.{sym, ◌∙◌, ap, subst, arith}
use Rattle.std.proofs.Math.Seq.{length-take-le}
use Rattle.algebra.specs.Cases.{and_right}
use Rattle.algebra.specs.Counting.{count_p}
use Rattle.algebra.specs.Ranges.{up_from, up_from_length}
use Rattle.geometry.specs.Plane.{Point}
use Rattle.index_edge.specs.Edge.{Edge, edge}
use Rattle.polygon.specs.Ring.{IsRing, next, at}
use Rattle.polygon.specs.Edges.{edge_at}
use Rattle.intersection_set.specs.Within.{Proper}
use Rattle.machine.specs.Board.{Board, meet_edges}
use Rattle.box_tree.specs.Boxes.{Bounds, span, share}
use Rattle.box_tree.specs.Tree.{box_at, ring_tree}
use Rattle.box_tree.specs.Query.{near}
use Rattle.box_tree.specs.Within.{Appended, Finds, Asked}
use Rattle.box_tree.proofs.MeetingBoxes.{meets_shares}
use Rattle.sweeps.specs.Query.{other, met, contacts, tests, Places, Kept}
use Rattle.sweeps.specs.declared.query.Contacts.{Contacts}
use Rattle.sweeps.proofs.Filters.{filter_few, filter_within, count_within, passes}
use Rattle.sweeps.proofs.Seeing.{contact_is}
use Rattle.sweeps.proofs.Ends.{two, proper_at, ends_differ, meet_comm, points_differ}

-- no more edges meet one than there are
pub contacts_few : (n : ℕ) (pt : ℕ → Point) (r : List ℕ) (e : Edge) → length (contacts n pt r e) ≤ n
unfolding contacts
contacts_few n pt r e = omega (arith, filter_few (λ i. met pt e (edge_at n r i)) (up_from 0 n), up_from_length 0 n)

-- the whole tree is asked, with room for every position
pub asked : {n : ℕ} {pt : ℕ → Point} (r : List ℕ) {t : List ℤ} {l : List ℕ} → Board n pt → n ≤ 256 → n ≤ length l → t ≡ ring_tree n pt r → Asked 0 n t l 0
unfolding ring_tree
asked {n} {pt} r board few room e = record {
  some = omega (arith, board.three);
  short = omega (arith, few);
  room = omega (arith, room);
  held = (box_at n pt r, e);
}

module _ (n : ℕ) (pt : ℕ → Point) (r : List ℕ) (e : Edge) where
  -- the edge at a position meets e
  abbrev pub is_met : ℕ → Bool
  is_met i = met pt e (edge_at n r i)

  -- its box shares a place with that of e
  abbrev pub is_near : ℕ → Bool
  is_near i = share (span (pt e.lo) (pt e.hi)) (box_at n pt r i)

  abbrev pub near_edges : List ℕ
  near_edges = filter is_near (up_from 0 n)

-- ---- of the near edges those that meet e are all that do
module _ {n : ℕ} {pt : ℕ → Point} {r : List ℕ} {e : Edge} (ring : IsRing n r) (board : Board n pt) (proper : Proper n e) where
  met_shares : (i : ℕ) → i < n → is_met n pt r e i ≡ true → is_near n pt r e i ≡ true
  unfolding box_at
  met_shares i l t =
      let a = at r i in
      let b = at r (next n i) in
      let there = proper_at ring (two board) i l in
      meets_shares (pt e.lo) (pt e.hi) (pt a) (pt b) (ends_differ board.distinct proper) (points_differ board.distinct a b there)
      (contact_is pt e a b ∙ meet_comm board.distinct proper there ∙ and_right (other e (edge a b)) (meet_edges pt (edge a b) e) t)

  found_is : filter (is_met n pt r e) (near_edges n pt r e) ≡ contacts n pt r e
  unfolding contacts
  found_is = filter_within (is_met n pt r e) (is_near n pt r e) 0 n (λ j a l. met_shares j (omega (arith, l)))

tested_is : (n : ℕ) (pt : ℕ → Point) (r : List ℕ) (e : Edge) → count_p (λ i. other e (edge_at n r i)) (near_edges n pt r e) ≡ tests n pt r e
unfolding tests
tested_is n pt r e = count_within (λ i. other e (edge_at n r i)) (is_near n pt r e) _

-- ---- as the code has them: the first k of a list m, written over l
pub record NearFound (n : ℕ) (pt : ℕ → Point) (r : List ℕ) (e : Edge) (l m : List ℕ) (k : ℕ) : Type 0 where
  pub appended : Appended l 0 m k (near_edges n pt r e)

pub near_found : {n : ℕ} {pt : ℕ → Point} {r : List ℕ} {e : Edge} {t : List ℤ} {l m : List ℕ} {k : ℕ} {p q : Point} {b : Bounds}
    → t ≡ ring_tree n pt r → p ≡ pt e.lo → q ≡ pt e.hi → b ≡ span p q → Finds b 0 n t l 0 m k → NearFound n pt r e l m k
unfolding ring_tree
near_found {n} {pt} {r} {l = l} {m} {k} et ep eq eb finds = record {
  appended = subst (λ c. Appended l 0 m k (near c (box_at n pt r) 0 n)) (eb ∙ (λ t. span (ep t) (eq t))) (finds (box_at n pt r) et);
}

module _ {n : ℕ} {pt : ℕ → Point} {r : List ℕ} {e : Edge} {l m : List ℕ} {k : ℕ} (near : NearFound n pt r e l m k) where
  pub few_places : k ≤ n
  few_places = omega (arith, near.appended.count, filter_few (is_near n pt r e) (up_from 0 n), up_from_length 0 n)

  pub places_end : n ≤ length l → k ≤ length m
  places_end room = omega (arith, few_places, near.appended.size, room)

  pub places_length : n ≤ length l → length (take k m) ≡ k
  places_length room = length-take-le k m (places_end room)

  pub on_ring : Places n (take k m)
  on_ring = subst (Places n) (sym near.appended.list) (λ i l. let p = passes (is_near n pt r e) 0 n i l in omega (arith, p.0))

  -- what is kept of them, and how many are tested
  module _ (ring : IsRing n r) (board : Board n pt) (proper : Proper n e) {a c : List ℕ} {d : Contacts}
      (kept : Kept (met pt e) (other e) n r (take k m) a c d) where
    pub query_list : take d.count c ≡ contacts n pt r e
    query_list = kept.list ∙ ap (filter (is_met n pt r e)) near.appended.list ∙ found_is ring board proper

    pub query_count : d.count ≡ length (contacts n pt r e)
    query_count = kept.count ∙ ap (λ l. length (filter (is_met n pt r e) l)) near.appended.list ∙ ap length (found_is ring board proper)

  pub query_tested : {a c : List ℕ} {d : Contacts} → Kept (met pt e) (other e) n r (take k m) a c d → d.tested ≡ tests n pt r e
  query_tested kept = kept.tested ∙ ap (count_p (λ i. other e (edge_at n r i))) near.appended.list ∙ tested_is n pt r e
