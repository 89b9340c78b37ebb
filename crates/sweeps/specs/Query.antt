-- Which edges of a ring meet an edge: what the plain scan of all of them finds, and which of them a query of the tree tests.
use Rattle.std.specs.Prelude.{◌≡◌, Bool, not, ◌&&◌, List, filter, ℕ, ◌<◌, length, take}
use Rattle.algebra.specs.Counting.{count_p}
use Rattle.algebra.specs.Ranges.{up_from}
use Rattle.geometry.specs.Plane.{Point}
use Rattle.index_edge.specs.Edge.{Edge, eq_edge}
use Rattle.polygon.specs.Ring.{at}
use Rattle.polygon.specs.Edges.{edge_at}
use Rattle.machine.specs.Board.{meet_edges}
use Rattle.box_tree.specs.Boxes.{span, share}
use Rattle.box_tree.specs.Tree.{box_at}
use Rattle.sweeps.specs.declared.pair.Compared.{Compared}
use Rattle.sweeps.specs.declared.query.Contacts.{Contacts}

-- f is another edge than e
abbrev pub other : Edge → Edge → Bool
other e f = not (eq_edge f e)

-- another, and meets it
abbrev pub met : (ℕ → Point) → Edge → Edge → Bool
met pt e f = other e f && meet_edges pt f e

-- Exactly the edges that the plain scan finds to meet e, itself left out: their positions, in ascending order.
unfoldable pub contacts : ℕ → (ℕ → Point) → List ℕ → Edge → List ℕ
contacts n pt r e = filter (λ i. met pt e (edge_at n r i)) (up_from 0 n)

-- How many edges a query tests: exactly the others whose box shares a place with the box of e.
unfoldable pub tests : ℕ → (ℕ → Point) → List ℕ → Edge → ℕ
tests n pt r e = count_p (λ i. other e (edge_at n r i) && share (span (pt e.lo) (pt e.hi)) (box_at n pt r i)) (up_from 0 n)

-- ---- what a part of the query asks, and does
-- the edges e and f were compared
pub record Compares (pt : ℕ → Point) (e f : Edge) (c : Compared) : Type 0 where
  pub other : c.other ≡ other e f
  pub meets : c.meets ≡ met pt e f

-- positions of a ring of n points
abbrev pub Places : ℕ → List ℕ → Type 0
Places n l = (i : ℕ) → i < length l → at l i < n

-- of the edges at the positions l, those that pass the test p are kept in front of the list a, which becomes b; and those that pass q are counted
pub record Kept (p q : Edge → Bool) (n : ℕ) (r l a b : List ℕ) (c : Contacts) : Type 0 where
  pub size : length b ≡ length a
  pub list : take c.count b ≡ filter (λ i. p (edge_at n r i)) l
  pub count : c.count ≡ length (filter (λ i. p (edge_at n r i)) l)
  pub tested : c.tested ≡ count_p (λ i. q (edge_at n r i)) l
