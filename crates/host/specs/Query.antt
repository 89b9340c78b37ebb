-- What `tour_query` answers, and what it leaves in what it was lent.
use Rattle.std.specs.Prelude.{Bool, false, ◌||◌, cond, List, [], ◌∷◌, ◌++◌, ℕ, eqb, ltb, leb, ℤ, length, take, drop, Result, Ok, Err}
use Rattle.refusal.specs.declared.Refusal.{Refusal}
use Rattle.refusal.specs.Number.{number_of}
use Rattle.geometry.specs.Plane.{Point}
use Rattle.geometry.specs.Lent.{points}
use Rattle.polygon.specs.Edges.{edge_at}
use Rattle.machine.specs.Answer.{refusal}
use Rattle.checks.specs.Checks.{any_below}
use Rattle.box_tree.specs.Tree.{ring_tree, tree_size}
use Rattle.sweeps.specs.Query.{contacts, tests}
use Rattle.sweeps.specs.declared.query.Contacts.{Contacts}
use Rattle.host.specs.declared.contacts.TourQueried.{TourQueried}

-- the positions of the edges that meet the one at a position of the ring
abbrev pub meeting : ℕ → (ℕ → Point) → List ℕ → ℕ → List ℕ
meeting n pt r position = contacts n pt r (edge_at n r position)

-- how many are tested for it
abbrev pub tests_at : ℕ → (ℕ → Point) → List ℕ → ℕ → ℕ
tests_at n pt r position = tests n pt r (edge_at n r position)

-- a result of the code in numbers
abbrev pub query_in_numbers : Result Contacts Refusal → TourQueried
query_in_numbers (Ok c) = record { code = 0; count = c.count; tested = c.tested }
query_in_numbers (Err r) = record { code = number_of r; count = 0; tested = 0 }

module _ (n : ℕ) (x y : List ℤ) (ring : List ℕ) (tree : List ℤ) (position : ℕ) (found : List ℕ) where
  -- Check 2: x, y, ring or found has fewer than n entries, the tree's buffer fewer than 4×(2n-1), or there is no such position.
  abbrev pub query_short : Bool
  query_short = (any_below n (length x ∷ length y ∷ length ring ∷ length found ∷ []) || ltb (length tree) (tree_size n)) || leb n position

  -- the number of the first check that fails, or 0
  abbrev pub query_refusal : ℕ
  query_refusal = refusal n (points x y) query_short false (take n ring)

  -- 0 with how many edges meet the one at the position and how many were tested, else the number of the refusal
  unfoldable pub queried : TourQueried
  queried =
      cond (eqb query_refusal 0)
      (record { code = 0; count = length (meeting n (points x y) (take n ring) position); tested = tests_at n (points x y) (take n ring) position })
      (record { code = query_refusal; count = 0; tested = 0 })

  -- The tree of the ring is left; all as it was if a check refuses.
  unfoldable pub tree_after : List ℤ
  tree_after = cond (eqb query_refusal 0) (ring_tree n (points x y) (take n ring) ++ drop (tree_size n) tree) tree

  -- So with the positions: no entry past them is written.
  unfoldable pub found_after : List ℕ
  found_after =
      let l = meeting n (points x y) (take n ring) position in
      cond (eqb query_refusal 0) (l ++ drop (length l) found) found
