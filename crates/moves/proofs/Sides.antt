-- On which side of a kink an edge's ends lie, and the search as it passes over the edges that lie beside it.
use mathlib.Core.Path.{◌≡◌, ◌∙◌, ap}
use mathlib.Core.Bool.{Bool, false}
use Prim.Native.Nat.{ℕ, ◌+◌, ◌<◌}
use Rattle.geometry.specs.Plane.{Point, lt_point}
use Rattle.geometry.specs.Segment.{inside}
use Rattle.geometry.specs.Spots.{spots}
use Rattle.polygon.specs.Ring.{next}
use Rattle.polygon.specs.Place.{position}
use Rattle.polygon.specs.declared.position.Position.{Position}
use Rattle.polygon.proofs.Positions.{next_lt}
use Rattle.machine.specs.Board.{pt_at}
use Rattle.machine.specs.Search.{held_at}
use Rattle.moves.specs.Walk.{ring_of, place_of, point_of, Moved, On}
use Rattle.moves.specs.Best.{looking}
use Rattle.moves.specs.Beside.{below_at, on_from}
use Rattle.moves.specs.declared.vertex.Vertex.{Vertex}
use Rattle.moves.specs.declared.search.Best.{Best}
use Rattle.moves.proofs.RingPositions.{at_id, at_size}
use Rattle.moves.proofs.KinkSearch.{pair_goes}

-- what the kink at v is told of the place i
pub side_of : {v w : Vertex} {i : ℕ} {p : Point} {s : Bool} → Moved v i w → p ≡ pt_at (point_of v) (ring_of v) (place_of v) → s ≡ lt_point (pt_at (point_of w) (ring_of w) (place_of w)) p → s ≡ below_at v i
side_of m e f = f ∙ (λ t. lt_point (pt_at (spots (m.points t)) (m.ring t).now (m.position t).id.0) (e t))

-- the next position is one of the same ring
pub on_next : {v : Vertex} {p q : Position} → On v p → q ≡ position p.size (next p.size p.id.0) → On v q
on_next {v} {p} o e = record { size = at_size e ∙ o.size; below = rw (at_id e, o.size) (next_lt v.points.n p.id.0 o.below) }

pub its_next : {v : Vertex} {p q : Position} → On v p → q ≡ position p.size (next p.size p.id.0) → q.id.0 ≡ next v.points.n p.id.0
its_next {p = p} o e = at_id e ∙ ap (λ m. next m p.id.0) o.size

-- an edge that does not hold the kink is passed
pub passes : {v : Vertex} {p q : Position} (b : Best) (after i : ℕ) → On v p → q ≡ position p.size (next p.size p.id.0) → i < after →
    held_at v.points.n (point_of v) (ring_of v) (place_of v) p.id.0 ≡ false → on_from v b after (record { at = q; passed = i + 1 }) ≡ on_from v b after (record { at = p; passed = i })
passes {v = v} {p} b after i o e h f =
    ap (looking v.points.n (point_of v) (ring_of v) (place_of v) b after (i + 1)) (its_next {v = v} o e) ∙ pair_goes v.points.n (point_of v) (ring_of v) (place_of v) b after p.id.0 i h f

-- whether the edge at a place that was moved to holds the kink
pub held_by : {v w : Vertex} {i : ℕ} {p : Point} {t : Bool} → Moved v i w → p ≡ pt_at (point_of v) (ring_of v) (place_of v) →
    t ≡ inside (pt_at (point_of w) (ring_of w) (place_of w)) (pt_at (point_of w) (ring_of w) (next w.points.n (place_of w))) p → t ≡ held_at v.points.n (point_of v) (ring_of v) (place_of v) i
held_by m e f = f ∙ (λ t. let pt = spots (m.points t) in let r = (m.ring t).now in let i = (m.position t).id.0 in inside (pt_at pt r i) (pt_at pt r (next (m.points t).n i)) (e t))
