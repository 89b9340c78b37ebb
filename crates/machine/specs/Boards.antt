-- Boards with their answers, as rows: document 01's starred ones, and six that catch mistakes which those miss.
-- `rows_hold` (proofs/Boards) proves them all together by computation.
use Rattle.std.specs.Prelude.{Bool, true, false, not, ◌&&◌, cond, List, [], ◌∷◌, map, ℕ, ℤ, pos, negsuc, eqb, length, get_or}
use Rattle.algebra.specs.Ranges.{up_from}
use Rattle.geometry.specs.Plane.{Point}
use Rattle.geometry.specs.Segment.{meets}
use Rattle.index_edge.specs.Edge.{Edge, edge, eq_edge}
use Rattle.polygon.specs.Edges.{edges}
use Rattle.intersection_set.specs.Store.{Rec, counted}
use Rattle.intersection_set.specs.Lists.{tangle}
use Rattle.machine.specs.Machine.{State, Laid, place, after}
use Rattle.machine.specs.Answer.{Answer, refused, unfinished, delivered, call}

-- What a row says of the points, the starting ring 0, 1, 2, .. and the picks.
pub data Row : Type 0 where
  -- what the call answers
  tour : List Point → List ℕ → Answer → Row
  -- of each move, the last one first, whether it is a hoist
  hoisted : List Point → List ℕ → List Bool → Row
  -- how many records name two edges after the picks
  named : List Point → List ℕ → Edge → Edge → ℕ → Row
  -- how many records name the edge at each ring position after the picks
  tangles : List Point → List ℕ → List ℕ → Row
  -- the edges of the records after the picks, in dense order
  dense : List Point → List ℕ → List Edge → Row
  -- whether a a' meets b b'
  meeting : Point → Point → Point → Point → Bool → Row

-- ---- the test of a row
abbrev same_bit : Bool → Bool → Bool
same_bit s t = cond s t (not t)

abbrev same_list : {A : Type 0} → (A → A → Bool) → List A → List A → Bool
same_list eq [] [] = true
same_list eq [] (b ∷ l) = false
same_list eq (a ∷ k) [] = false
same_list eq (a ∷ k) (b ∷ l) = eq a b && same_list eq k l

abbrev same : Answer → Answer → Bool
same (refused k) (refused l) = eqb k l
same (refused k) (unfinished r b c) = false
same (refused k) (delivered r b c) = false
same (unfinished r b c) (refused l) = false
same (unfinished r b c) (unfinished s d e) = same_list eqb r s && (eqb b d && eqb c e)
same (unfinished r b c) (delivered s d e) = false
same (delivered r b c) (refused l) = false
same (delivered r b c) (unfinished s d e) = false
same (delivered r b c) (delivered s d e) = same_list eqb r s && (eqb b d && eqb c e)

abbrev p : ℤ → ℤ → Point
p a b = record { x = a; y = b }

-- the point of a number
abbrev board : List Point → ℕ → Point
board l i = get_or l i (p (pos 0) (pos 0))

abbrev kinds : List Laid → List Bool
kinds [] = []
kinds (m ∷ g) = m.hoisted ∷ kinds g

abbrev both_edges : List Rec → List Edge
both_edges [] = []
both_edges (q ∷ l) = q.e0 ∷ q.e1 ∷ both_edges l

-- how many records name each edge of the ring, by position
abbrev by_position : ℕ → State → List ℕ
by_position n s = map (λ e. tangle e s.store) (edges n s.ring)

module _ (ps : List Point) where
  abbrev first : List ℕ
  first = up_from 0 (length ps)

abbrev pub holds : Row → Bool
holds (tour ps cs a) = same (call (length ps) (board ps) false (first ps) cs) a
holds (hoisted ps cs l) = same_list same_bit (kinds (after (length ps) (board ps) place cs (first ps)).log) l
holds (named ps cs e f k) = eqb (counted e f (after (length ps) (board ps) place cs (first ps)).now.store.dense) k
holds (tangles ps cs l) = same_list eqb (by_position (length ps) (after (length ps) (board ps) place cs (first ps)).now) l
holds (dense ps cs l) = same_list eq_edge (both_edges (after (length ps) (board ps) place cs (first ps)).now.store.dense) l
holds (meeting a a' b b' t) = same_bit (meets a a' b b') t

abbrev pub all_hold : List Row → Bool
all_hold [] = true
all_hold (q ∷ l) = holds q && all_hold l

-- ---- the boards
unfoldable pub square : List Point
square = p (pos 0) (pos 0) ∷ p (pos 10) (pos 10) ∷ p (pos 10) (pos 0) ∷ p (pos 0) (pos 10) ∷ []

unfoldable pub four : List Point
four = p (pos 0) (pos 0) ∷ p (pos 4) (pos 0) ∷ p (pos 2) (pos 0) ∷ p (pos 2) (pos 3) ∷ []

unfoldable pub seven : List Point
seven = p (pos 12) (pos 0) ∷ p (pos 1) (pos 0) ∷ p (pos 3) (negsuc 4) ∷ p (pos 0) (pos 0) ∷ p (pos 10) (pos 0) ∷ p (pos 2) (pos 0) ∷ p (pos 6) (pos 5) ∷ []

-- the far end of the first run is the kink, and an edge of the second run holds it
unfoldable pub far_end : List Point
far_end = p (pos 1) (pos 0) ∷ p (pos 4) (pos 0) ∷ p (pos 5) (negsuc 4) ∷ p (pos 6) (pos 0) ∷ p (pos 3) (pos 0) ∷ p (pos 0) (pos 0) ∷ p (pos 1) (pos 5) ∷ []

-- a run has to stretch back, and one has to stretch on
unfoldable pub stretch_back : List Point
stretch_back = p (pos 0) (pos 3) ∷ p (pos 0) (pos 0) ∷ p (pos 0) (pos 1) ∷ p (pos 1) (pos 0) ∷ p (pos 0) (pos 2) ∷ []

unfoldable pub stretch_on : List Point
stretch_on = p (pos 1) (pos 0) ∷ p (pos 0) (pos 3) ∷ p (pos 0) (pos 0) ∷ p (pos 0) (pos 1) ∷ p (pos 0) (pos 2) ∷ []

-- the last dense entry moves into the gap
unfoldable pub gap : List Point
gap = p (pos 1) (pos 1) ∷ p (pos 0) (pos 0) ∷ p (pos 0) (pos 2) ∷ p (pos 1) (pos 0) ∷ p (pos 0) (pos 1) ∷ []

-- the smallest board with a pair recorded twice: the hoist wraps
unfoldable pub wrap : List Point
wrap = p (pos 0) (pos 0) ∷ p (pos 0) (pos 1) ∷ p (pos 1) (pos 0) ∷ p (pos 2) (pos 0) ∷ p (pos 3) (pos 0) ∷ []

-- more records left than at the start
unfoldable pub more : List Point
more = p (pos 0) (pos 0) ∷ p (pos 0) (pos 1) ∷ p (pos 2) (pos 0) ∷ p (pos 1) (pos 0) ∷ p (pos 1) (pos 1) ∷ p (pos 2) (pos 1) ∷ []

-- ---- the rows
unfoldable pub rows : List Row
rows =
    tour (p (pos 0) (pos 0) ∷ p (pos 1) (pos 0) ∷ p (pos 2) (pos 0) ∷ []) [] (refused 7)
    ∷ tour [] [] (refused 6)
    ∷ tour (p (pos 3) (pos 4) ∷ p (pos 3) (pos 4) ∷ []) [] (refused 5)
    ∷ tour (p (pos 3) (pos 4) ∷ p (pos 4) (pos 3) ∷ []) [] (refused 6)
    ∷ tour (p (pos 0) (pos 0) ∷ p (pos 0) (pos 1) ∷ p (pos 1) (pos 0) ∷ []) [] (delivered (2 ∷ 1 ∷ 0 ∷ []) 0 0)
    ∷ tour square [] (unfinished (0 ∷ 1 ∷ 2 ∷ 3 ∷ []) 0 1)
    ∷ tour square (7 ∷ []) (delivered (0 ∷ 2 ∷ 1 ∷ 3 ∷ []) 1 1)
    ∷ tour four [] (unfinished (0 ∷ 1 ∷ 2 ∷ 3 ∷ []) 0 2)
    ∷ tour four (0 ∷ []) (delivered (0 ∷ 2 ∷ 1 ∷ 3 ∷ []) 1 2)
    ∷ tour four (1 ∷ []) (delivered (0 ∷ 2 ∷ 1 ∷ 3 ∷ []) 1 2)
    ∷ hoisted four (0 ∷ []) (true ∷ [])
    ∷ hoisted four (1 ∷ []) (false ∷ [])
    ∷ tour seven [] (unfinished (0 ∷ 1 ∷ 2 ∷ 3 ∷ 4 ∷ 5 ∷ 6 ∷ []) 0 6)
    ∷ tour seven (0 ∷ []) (unfinished (0 ∷ 4 ∷ 1 ∷ 2 ∷ 3 ∷ 5 ∷ 6 ∷ []) 1 4)
    ∷ named seven (0 ∷ []) (edge 1 4) (edge 3 5) 2
    ∷ tangles seven (0 ∷ []) (0 ∷ 3 ∷ 1 ∷ 0 ∷ 3 ∷ 1 ∷ 0 ∷ [])
    ∷ meeting (p (pos 0) (pos 0)) (p (pos 4) (pos 0)) (p (pos 2) (pos 0)) (p (pos 2) (pos 3)) true
    ∷ meeting (p (pos 0) (pos 0)) (p (pos 4) (pos 0)) (p (pos 4) (pos 0)) (p (pos 2) (pos 0)) true
    ∷ meeting (p (pos 0) (pos 0)) (p (pos 2) (pos 0)) (p (pos 2) (pos 0)) (p (pos 4) (pos 0)) false
    ∷ tour far_end (0 ∷ []) (unfinished (6 ∷ 0 ∷ 2 ∷ 3 ∷ 1 ∷ 4 ∷ 5 ∷ []) 1 2)
    ∷ tour stretch_back (0 ∷ []) (unfinished (0 ∷ 4 ∷ 1 ∷ 2 ∷ 3 ∷ []) 1 2)
    ∷ tour stretch_on (0 ∷ []) (unfinished (0 ∷ 1 ∷ 4 ∷ 2 ∷ 3 ∷ []) 1 3)
    ∷ dense gap (0 ∷ []) (edge 0 4 ∷ edge 1 2 ∷ edge 1 2 ∷ edge 3 4 ∷ [])
    ∷ tour wrap (1 ∷ []) (unfinished (2 ∷ 0 ∷ 1 ∷ 3 ∷ 4 ∷ []) 1 3)
    ∷ named wrap (1 ∷ []) (edge 1 3) (edge 2 4) 2
    ∷ tour more [] (unfinished (0 ∷ 1 ∷ 2 ∷ 3 ∷ 4 ∷ 5 ∷ []) 0 3)
    ∷ tour more (1 ∷ []) (unfinished (1 ∷ 0 ∷ 2 ∷ 3 ∷ 4 ∷ 5 ∷ []) 1 4)
    ∷ dense seven (0 ∷ []) (edge 1 4 ∷ edge 3 5 ∷ edge 1 2 ∷ edge 3 5 ∷ edge 1 4 ∷ edge 3 5 ∷ edge 1 4 ∷ edge 5 6 ∷ [])
    ∷ []
