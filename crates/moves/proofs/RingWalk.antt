-- A loop that walks along the ring: `go k i` is what the walk from place i comes to, with a count k of its steps, and each turn of the loop leaves that as it was.
use mathlib.Core.Path.{◌≡◌, ◌∙◌, ap, subst}
use Prim.Native.Nat.{ℕ, ◌<◌}
use Rattle.geometry.specs.Plane.{Point}
use Rattle.geometry.specs.Spots.{spots}
use Rattle.geometry.specs.declared.lent.Points.{Points}
use Rattle.polygon.specs.Place.{position}
use Rattle.machine.specs.Board.{pt_at}
use Rattle.moves.specs.Walk.{ring_of, place_of, point_of, Moved}
use Rattle.moves.specs.declared.vertex.Vertex.{Vertex}
use Rattle.moves.proofs.RingPositions.{at_id, moved_point}

-- the walk from v stands at w, counts its steps, most often those left, and will come to `end`
pub record Walk {A : Type 0} (v : Vertex) (go : ℕ → ℕ → A) (end : A) (w : Vertex) (left : ℕ) : Type 0 where
  pub points : w.points ≡ v.points
  pub ring : w.cursor.ring ≡ v.cursor.ring
  pub same : go left (place_of w) ≡ end

module _ {A : Type 0} {v : Vertex} {go : ℕ → ℕ → A} {end : A} {w : Vertex} {left : ℕ} (k : Walk v go end w left) where
  pub walk_below : place_of w < v.points.n
  walk_below = subst (λ (p : Points). place_of w < p.n) k.points w.on_ring.2

  -- the place one step from it
  pub walk_to : (step : ℕ → ℕ → ℕ) {q : Vertex} → Moved w (step w.points.n (place_of w)) q → q.cursor.position ≡ position v.points.n (step v.points.n (place_of w))
  walk_to step m = m.position ∙ (λ t. position (k.points t).n (step (k.points t).n (place_of w)))

  -- the point there
  pub walk_reads : (step : ℕ → ℕ → ℕ) {q : Vertex} {a : Point} → Moved w (step w.points.n (place_of w)) q → a ≡ pt_at (point_of q) (ring_of q) (place_of q) →
      a ≡ pt_at (point_of v) (ring_of v) (step v.points.n (place_of w))
  walk_reads step m e = moved_point m e ∙ (λ t. pt_at (spots (k.points t)) (k.ring t).now (step (k.points t).n (place_of w)))

  -- one step, after which the rest of the walk comes to the same
  pub walk_steps : (step : ℕ → ℕ → ℕ) {rest : ℕ → ℕ → A} {m : ℕ} {q : Vertex} → Moved w (step w.points.n (place_of w)) q → rest m (step v.points.n (place_of w)) ≡ go left (place_of w) → Walk v rest end q m
  walk_steps step {rest} {m} d h = record { points = d.points ∙ k.points; ring = d.ring ∙ k.ring; same = ap (rest m) (at_id (walk_to step d)) ∙ h ∙ k.same }

  -- the point at it
  pub walk_here : {a : Point} → a ≡ pt_at (point_of w) (ring_of w) (place_of w) → a ≡ pt_at (point_of v) (ring_of v) (place_of w)
  walk_here e = e ∙ (λ t. pt_at (spots (k.points t)) (k.ring t).now (place_of w))
