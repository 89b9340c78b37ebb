-- The parts of a word that is packed, and what a store of one word does to the lists of parts.
use mathlib.Core.Path.{◌≡◌, refl, sym, ap, subst, ◌∙◌}
use mathlib.Core.Logic.{◌≢◌}
use mathlib.Core.Bool.{Bool, true, false, not}
use mathlib.Core.List.{List, map}
use Prim.Native.Nat.{ℕ, ◌+◌, ◌-◌, ◌*◌, ◌/◌, ◌%◌, ◌<◌}
use native.Mathlib.Omega.{arith}
use lib.ListN.{length, get_or, set, length-map, get_or-map}
use lib.Seq.{map-set_same}
use Rattle.std.proofs.lemmas.List.{map-set}
use borrow.Author.Tests.{ne_eqb}
use Rattle.index_edge.specs.Edge.{Edge, eq_edge}
use Rattle.intersection_set.specs.Lists.{none}
use Rattle.intersection_set.specs.Words.{packed, part0, part1, part2, part3, unit_of, with_link}
use Rattle.intersection_set.specs.Pool.{Ends, ends, no_ends, Pair, pair, no_pair, pair_of, edges_of, links_in, nexts_in, prevs_in, end0, put_end, set_end, put_edges, put_ends, clear_ends}

pub packed_parts : (w : ℕ) → packed (part0 w) (part1 w) (part2 w) (part3 w) ≡ w
packed_parts w = omega arith

-- ---- one number of a word anew, at the unit u of its place
module _ (w v : ℕ) (hw : w < 18446744073709551616) (hv : v < 65536) where
  pub is_anew : (back first : Bool) → w - w / unit_of back first % 65536 * unit_of back first + v * unit_of back first ≡ with_link back first w v
  unfolding with_link
  is_anew true true = omega arith
  is_anew true false =
      let q : w / 281474976710656 < 65536 = omega arith in
      let e : w / 281474976710656 % 65536 ≡ w / 281474976710656 = omega (arith, q) in
      omega (arith, e, packed_parts w)
  is_anew false true = omega arith
  is_anew false false = omega arith

-- ---- what is read of a word
module _ (l : List ℕ) (i : ℕ) where
  pub in_words : {A : Type 0} (f : ℕ → A) → i < length (map f l) → i < length l
  in_words f h = subst (λ (k : ℕ). i < k) (length-map l f) h

  pub pair_reads : get_or (edges_of l) i no_pair ≡ pair_of (get_or l i 0)
  unfolding pair_of
  pair_reads = get_or-map pair_of l i 0

  pub links_read : (back : Bool) → get_or (map (links_in back) l) i no_ends ≡ links_in back (get_or l i 0)
  unfolding links_in
  links_read true = get_or-map (links_in true) l i 0
  links_read false = get_or-map (links_in false) l i 0

-- ---- a word stored
stored : {A : Type 0} (f : ℕ → A) (l : List ℕ) (i y : ℕ) (v : A) → f y ≡ v → map f (set l i y) ≡ set (map f l) i v
stored f l i y v e = map-set f l i y ∙ ap (set (map f l) i) e

as_ends : {a b c d : ℕ} → a ≡ c → b ≡ d → ends a b ≡ ends c d
as_ends p q = λ j. ends (p j) (q j)

-- four numbers at once
module _ (l : List ℕ) (i a b c d : ℕ) (ha : a < 65536) (hb : b < 65536) (hc : c < 65536) where
  pub edges_stored : edges_of (set l i (packed a b c d)) ≡ put_edges i (record { lo = a; hi = b }) (record { lo = c; hi = d }) (edges_of l)
  unfolding pair_of put_edges
  edges_stored =
      let p0 : part0 (packed a b c d) ≡ a = omega arith in
      let p1 : part1 (packed a b c d) ≡ b = omega arith in
      let p2 : part2 (packed a b c d) ≡ c = omega arith in
      let p3 : part3 (packed a b c d) ≡ d = omega arith in
      stored pair_of l i (packed a b c d) _ (λ j. pair (record { lo = p0 j; hi = p1 j }) (record { lo = p2 j; hi = p3 j }))

  pub nexts_stored : map nexts_in (set l i (packed a b c d)) ≡ put_ends i a c (map nexts_in l)
  unfolding links_in put_ends
  nexts_stored = stored nexts_in l i (packed a b c d) (ends a c) (as_ends (omega arith) (omega arith))

  pub prevs_stored : map prevs_in (set l i (packed a b c d)) ≡ put_ends i b d (map prevs_in l)
  unfolding links_in put_ends
  prevs_stored = stored prevs_in l i (packed a b c d) (ends b d) (as_ends (omega arith) (omega arith))

-- one of them
module _ (w v : ℕ) (hv : v < 65536) where
  this_way : (back first : Bool) → links_in back (with_link back first w v) ≡ put_end first v (links_in back w)
  unfolding links_in with_link
  this_way true true = as_ends (omega arith) (omega arith)
  this_way true false = as_ends (omega arith) (omega arith)
  this_way false true = as_ends (omega arith) (omega arith)
  this_way false false = as_ends (omega arith) (omega arith)

  other_way : (back first : Bool) → links_in (not back) (with_link back first w v) ≡ links_in (not back) w
  unfolding links_in with_link
  other_way true true = as_ends (omega arith) (omega arith)
  other_way true false = as_ends (omega arith) (omega arith)
  other_way false true = as_ends (omega arith) (omega arith)
  other_way false false = as_ends (omega arith) (omega arith)

-- ---- the same as the steps of the pool say it
pub link_set : (w : List Pair) (l : List ℕ) (s : ℕ) (e : Edge) (v : ℕ) (back : Bool) {first : Bool} {r : ℕ} → s ≢ none → v < 65536 → first ≡ eq_edge e (end0 w s) → r ≡ with_link back first (get_or l s 0) v
    → (map (links_in back) (set l s r) ≡ set_end s e v w (map (links_in back) l)) × (map (links_in (not back)) (set l s r) ≡ map (links_in (not back)) l)
unfolding set_end
link_set w l s e v back {first} some hv here q = (
  rw (ne_eqb s none some, sym here, q, links_read l s back) (stored (links_in back) l s _ _ (this_way (get_or l s 0) v hv back first)),
  rw q (map-set_same (links_in (not back)) l s _ 0 (other_way (get_or l s 0) v hv back first)),
)

pub cleared : (s : ℕ) (x : List Ends) → put_ends s none none x ≡ clear_ends s x
unfolding put_ends clear_ends
cleared s x = refl
