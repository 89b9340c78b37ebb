-- Places on one ring: what stands at a place that was moved to, and what is asked of it.
use mathlib.Core.Path.{◌≡◌, ◌∙◌, ap, subst⁻¹}
use mathlib.Core.List.{List}
use Prim.Native.Nat.{ℕ}
use Rattle.std.proofs.Common.{Bor}
use Rattle.geometry.specs.Plane.{Point}
use Rattle.geometry.specs.Spots.{spots}
use Rattle.geometry.specs.declared.lent.Points.{Points}
use Rattle.polygon.specs.Ring.{next}
use Rattle.polygon.specs.Place.{position}
use Rattle.polygon.specs.declared.position.Position.{Position}
use Rattle.machine.specs.Board.{pt_at}
use Rattle.moves.specs.Walk.{ring_of, place_of, point_of, Moved}
use Rattle.moves.specs.declared.vertex.Vertex.{Vertex}

module _ {n i : ℕ} {q : Position} (e : q ≡ position n i) where
  pub at_id : q.id.0 ≡ i
  at_id = ap (λ (p : Position). p.id.0) e

  pub at_size : q.size ≡ n
  at_size = ap (λ (p : Position). p.size) e

-- the point that is read at a place that was moved to
pub moved_point : {v w : Vertex} {i : ℕ} {a : Point} → Moved v i w → a ≡ pt_at (point_of w) (ring_of w) (place_of w) → a ≡ pt_at (point_of v) (ring_of v) i
moved_point m e = e ∙ (λ t. pt_at (spots (m.points t)) (m.ring t).now (m.position t).id.0)

-- the point that is read one place on from there
pub moved_on : {v w u : Vertex} {i : ℕ} {a : Point} → Moved v i w → Moved w (next w.points.n (place_of w)) u → a ≡ pt_at (point_of u) (ring_of u) (place_of u) →
    a ≡ pt_at (point_of v) (ring_of v) (next v.points.n i)
moved_on m k e = moved_point k e ∙ (λ t. pt_at (spots (m.points t)) (m.ring t).now (next (m.points t).n (m.position t).id.0))

-- a fact of the points, the ring and the place of which a vertex is made
pub made_of : (P : ℕ → (ℕ → Point) → List ℕ → ℕ → Type 0) (v : Vertex) {points : Points} {ring : Bor (List ℕ)} {q : Position} →
    v.points ≡ points → v.cursor.ring ≡ ring → v.cursor.position ≡ q → P points.n (spots points) ring.now q.id.0 → P v.points.n (point_of v) (ring_of v) (place_of v)
made_of P v e f g h = subst⁻¹ (λ (X : Type 0). X) (λ t. P (e t).n (spots (e t)) (f t).now (g t).id.0) h
