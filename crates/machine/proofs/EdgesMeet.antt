-- How two edges meet, and whether they do, depends on neither's direction, nor on their order.
use mathlib.Core.Path.{◌≡◌, ◌∙◌, ap}
use mathlib.Core.Logic.{◌≢◌}
use Prim.Native.Nat.{ℕ, suc}
use Rattle.geometry.specs.Plane.{Point}
use Rattle.geometry.specs.Segment.{meets}
use Rattle.geometry.specs.Contact.{kind, some_contact}
use Rattle.geometry.proofs.Contacts.{meets_is, kind_rev, kind_rev₂, kind_swap}
use Rattle.algebra.specs.Cases.{both, le_cases}
use Rattle.index_edge.specs.Edge.{Edge, edge}
use Rattle.machine.specs.Board.{kind_edges, meet_edges}

-- the kind of two edges is that of their ends, in any direction
pub kind_ends : (pt : ℕ → Point) (x x' y y' : ℕ) → kind_edges pt (edge x x') (edge y y') ≡ kind (pt x) (pt x') (pt y) (pt y')
unfolding kind_edges
kind_ends pt x x' y y' =
    both (le_cases (suc x) x')
    (λ h. both (le_cases (suc y) y') (λ g. rw (h.1, g.1)) (λ g. rw (h.1, g.1) (kind_rev₂ (pt x) (pt x') (pt y) (pt y'))))
    (λ h. both (le_cases (suc y) y') (λ g. rw (h.1, g.1) (kind_rev (pt x) (pt x') (pt y) (pt y')))
    (λ g. rw (h.1, g.1) (kind_rev (pt x) (pt x') (pt y') (pt y) ∙ kind_rev₂ (pt x) (pt x') (pt y) (pt y'))))

-- edges meet where the meeting test of their ends says so
pub meet_edges_is : (pt : ℕ → Point) (e f : Edge) → meet_edges pt e f ≡ meets (pt e.lo) (pt e.hi) (pt f.lo) (pt f.hi)
unfolding meet_edges kind_edges
meet_edges_is pt e f = meets_is (pt e.lo) (pt e.hi) (pt f.lo) (pt f.hi)

pub meets_ends : (pt : ℕ → Point) (x x' y y' : ℕ) → meet_edges pt (edge x x') (edge y y') ≡ meets (pt x) (pt x') (pt y) (pt y')
unfolding meet_edges
meets_ends pt x x' y y' = ap some_contact (kind_ends pt x x' y y') ∙ meets_is (pt x) (pt x') (pt y) (pt y')

-- and in any order, where each edge's ends differ
pub kind_edges_comm : (pt : ℕ → Point) (e f : Edge) → pt e.lo ≢ pt e.hi → pt f.lo ≢ pt f.hi → kind_edges pt f e ≡ kind_edges pt e f
unfolding kind_edges
kind_edges_comm pt e f ne nf = kind_swap (pt e.lo) (pt e.hi) (pt f.lo) (pt f.hi) ne nf

pub meet_edges_comm : (pt : ℕ → Point) (e f : Edge) → pt e.lo ≢ pt e.hi → pt f.lo ≢ pt f.hi → meet_edges pt f e ≡ meet_edges pt e f
unfolding meet_edges
meet_edges_comm pt e f ne nf = ap some_contact (kind_edges_comm pt e f ne nf)
