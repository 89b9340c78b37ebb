-- What `tour_query` tells and leaves: a refusal and all as it was where a check fails, else the edges that were found.
use Rattle.std.specs.Prelude.{◌≡◌, refl, Bool, false, ◌||◌, List, [], ◌∷◌, ◌++◌, ℕ, ◌≤◌, ◌<◌, eqb, ltb, leb, ℤ, length, take, drop, Ok, Err}
use Rattle.std.proofs.Common.{sym, ◌∙◌, ap, arith, ltb-false, leb-false}
use borrow.Author.Tests.{ne_eqb}
use Rattle.algebra.specs.Cases.{or_parts}
use Rattle.refusal.specs.declared.Refusal.{Refusal}
use Rattle.refusal.specs.Number.{number_of}
use Rattle.refusal.proofs.Numbers.{some_number}
use Rattle.geometry.specs.Lent.{points}
use Rattle.machine.specs.Answer.{refusal}
use Rattle.machine.proofs.Accepted.{Accepted, accepted}
use Rattle.checks.specs.Checks.{any_below}
use Rattle.checks.proofs.Checking.{same_refusal, long}
use Rattle.box_tree.specs.Tree.{ring_tree, tree_size}
use Rattle.sweeps.specs.declared.query.Contacts.{Contacts}
use Rattle.host.specs.Query.{meeting, tests_at, query_in_numbers, query_short, query_refusal, queried, tree_after, found_after}

-- what a call is lent
module _ (n : ℕ) (x y : List ℤ) (ring : List ℕ) (tree : List ℤ) (position : ℕ) (found : List ℕ) where
  abbrev number : ℕ
  number = query_refusal n x y ring tree position found

  -- the checks' number, by the code's test of the lengths
  pub number_is : {k : ℕ} {s : Bool} → k ≡ refusal n (points x y) s false (take n ring) → (n ≤ 256 → s ≡ query_short n x y ring tree position found) → k ≡ number
  number_is {s = s} e h = e ∙ same_refusal n (points x y) s (query_short n x y ring tree position found) false (take n ring) h

  -- ---- a check fails
  module _ (e : Refusal) (h : number_of e ≡ number) where
    some : eqb number 0 ≡ false
    some = ne_eqb number 0 (λ z. (let s = some_number e in omega (arith, s, h, z)))

    pub told_refused : query_in_numbers (Err e) ≡ queried n x y ring tree position found
    unfolding queried
    told_refused = rw (some, h) refl

    pub tree_untouched : tree ≡ tree_after n x y ring tree position found
    unfolding tree_after
    tree_untouched = rw some refl

    pub found_untouched : found ≡ found_after n x y ring tree position found
    unfolding found_after
    found_untouched = rw some refl

  -- ---- none does
  module _ (h : 0 ≡ number) where
    pub ok : Accepted n (points x y) (query_short n x y ring tree position found) false (take n ring)
    ok = (accepted n (points x y) (query_short n x y ring tree position found) false (take n ring)).0 (sym h)

    abbrev of_points : List ℕ
    of_points = length x ∷ length y ∷ length ring ∷ length found ∷ []

    lengths : ((any_below n of_points || ltb (length tree) (tree_size n)) ≡ false) × (leb n position ≡ false)
    lengths = or_parts (any_below n of_points || ltb (length tree) (tree_size n)) (leb n position) ok.long

    pub on_ring : position < n
    on_ring = leb-false n position lengths.1

    pub tree_long : tree_size n ≤ length tree
    tree_long = ltb-false (length tree) (tree_size n) (or_parts (any_below n of_points) (ltb (length tree) (tree_size n)) lengths.0).1

    pub found_long : n ≤ length found
    found_long = long n of_points (or_parts (any_below n of_points) (ltb (length tree) (tree_size n)) lengths.0).0 3 (omega arith)

    pub ring_long : n ≤ length ring
    ring_long = long n of_points (or_parts (any_below n of_points) (ltb (length tree) (tree_size n)) lengths.0).0 2 (omega arith)

    pub told_found : (c : Contacts) → c.count ≡ length (meeting n (points x y) (take n ring) position) → c.tested ≡ tests_at n (points x y) (take n ring) position
        → query_in_numbers (Ok c) ≡ queried n x y ring tree position found
    unfolding queried
    told_found c ec et = rw (ap (λ m. eqb m 0) (sym h), ec, et) refl

    pub tree_left : {t : List ℤ} → t ≡ ring_tree n (points x y) (take n ring) ++ drop (tree_size n) tree → t ≡ tree_after n x y ring tree position found
    unfolding tree_after
    tree_left e = e ∙ rw (ap (λ m. eqb m 0) (sym h)) refl

    pub found_left : {l : List ℕ} → (let m = meeting n (points x y) (take n ring) position in l ≡ m ++ drop (length m) found) → l ≡ found_after n x y ring tree position found
    unfolding found_after
    found_left e = e ∙ rw (ap (λ m. eqb m 0) (sym h)) refl
