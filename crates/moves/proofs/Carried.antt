-- A walk along the ring, on or back, that reads each point once: it carries the point at its place and the one that it has just left.
use mathlib.Core.Path.{◌≡◌, sym, ◌∙◌, ap}
use mathlib.Core.List.{List}
use Prim.Native.Nat.{ℕ, ◌<◌}
use Rattle.geometry.specs.Plane.{Point, collinear}
use Rattle.geometry.proofs.Lines.{collinear_back}
use Rattle.polygon.specs.Ring.{next, prev}
use Rattle.polygon.proofs.Positions.{next_prev, prev_next}
use Rattle.machine.specs.Board.{pt_at, is_straight_line}
use Rattle.moves.specs.Walk.{ring_of, place_of, point_of, Moved}
use Rattle.moves.specs.Runs.{step, opposite}
use Rattle.moves.specs.declared.vertex.Vertex.{Vertex}
use Rattle.moves.specs.declared.extremes.Direction.{Direction}
use Rattle.moves.specs.declared.extremes.Direction.TheVariants.{Back, On}
use Rattle.moves.proofs.RingPositions.{at_id, moved_point}
use Rattle.moves.proofs.RingWalk.{Walk, walk_below, walk_to, walk_reads}

-- a step, and the step that undoes it
pub undone : (way : Direction) (n i : ℕ) → i < n → step (opposite way) n (step way n i) ≡ i
undone Back n i h = next_prev n i h
undone On n i h = prev_next n i h

-- the point behind place i, and the one at it
pub record Carried (way : Direction) (n : ℕ) (pt : ℕ → Point) (r : List ℕ) (i : ℕ) (b h : Point) : Type 0 where
  pub behind : b ≡ pt_at pt r (step (opposite way) n i)
  pub here : h ≡ pt_at pt r i

-- a vertex is collinear if the points that are carried past it are
pub straight : (way : Direction) {n : ℕ} {pt : ℕ → Point} {r : List ℕ} {i : ℕ} {b h a : Point} → Carried way n pt r i b h → a ≡ pt_at pt r (step way n i) → collinear b h a ≡ is_straight_line n pt r i
straight Back {n} {pt} {r} {i} k f = (λ t. collinear (k.behind t) (k.here t) (f t)) ∙ collinear_back (pt_at pt r (next n i)) (pt_at pt r i) (pt_at pt r (prev n i))
straight On k f = λ t. collinear (k.behind t) (k.here t) (f t)

module _ (way : Direction) where
  -- the first two points
  pub carried_first : {v q : Vertex} {a b : Point} → Moved v (step (opposite way) v.points.n (place_of v)) q → a ≡ pt_at (point_of q) (ring_of q) (place_of q) →
      b ≡ pt_at (point_of v) (ring_of v) (place_of v) → Carried way v.points.n (point_of v) (ring_of v) (place_of v) a b
  carried_first m f g = record { behind = moved_point m f; here = g }

  -- one step
  pub carried_on : {A : Type 0} {v : Vertex} {go : ℕ → ℕ → A} {end : A} {w q : Vertex} {left : ℕ} (k : Walk v go end w left) (m : Moved w (step way w.points.n (place_of w)) q) {b h a : Point} →
      Carried way v.points.n (point_of v) (ring_of v) (place_of w) b h → a ≡ pt_at (point_of q) (ring_of q) (place_of q) → Carried way v.points.n (point_of v) (ring_of v) (place_of q) h a
  carried_on {v = v} {w = w} k m c f =
      let e = at_id (walk_to k (step way) m) in
      record {
        behind = c.here ∙ ap (pt_at (point_of v) (ring_of v)) (sym (undone way v.points.n (place_of w) (walk_below k)) ∙ ap (step (opposite way) v.points.n) (sym e));
        here = walk_reads k (step way) m f ∙ ap (pt_at (point_of v) (ring_of v)) (sym e);
      }
