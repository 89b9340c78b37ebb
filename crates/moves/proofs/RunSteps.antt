-- The run of an edge, step by step, back and on alike; and it lies within the ring.
use mathlib.Core.Path.{◌≡◌, refl, sym, ◌∙◌, ap, subst⁻¹}
use mathlib.Core.Bool.{true, false, cond}
use mathlib.Core.List.{List}
use Prim.Native.Nat.{ℕ, zero, suc, ◌<◌}
use Rattle.geometry.specs.Plane.{Point}
use Rattle.geometry.specs.Spots.{spots}
use Rattle.polygon.specs.Ring.{next}
use Rattle.polygon.specs.Place.{position}
use Rattle.polygon.specs.declared.position.Position.{Position}
use Rattle.polygon.proofs.Positions.{next_lt, dist_lt}
use Rattle.machine.specs.Board.{is_straight_line}
use Rattle.machine.specs.Search.{run_back, run_on}
use Rattle.machine.proofs.SearchFits.{run_back_lt, run_on_lt}
use Rattle.moves.specs.Walk.{ring_of, place_of, point_of, Moved}
use Rattle.moves.specs.Runs.{step, corner, run_from, RunIn}
use Rattle.moves.specs.declared.extremes.Direction.{Direction}
use Rattle.moves.specs.declared.extremes.Direction.TheVariants.{Back, On}
use Rattle.moves.specs.declared.extremes.Run.{Run}
use Rattle.moves.specs.declared.vertex.Vertex.{Vertex}
use Rattle.moves.proofs.RingWalk.{Walk, walk_steps}

-- ---- a walk takes a step past each collinear vertex
no_more : (way : Direction) (n : ℕ) (pt : ℕ → Point) (r : List ℕ) (i : ℕ) → corner way n pt 0 r i ≡ i
no_more Back n pt r i = refl
no_more On n pt r i = refl

one_more : (way : Direction) (n : ℕ) (pt : ℕ → Point) (r : List ℕ) (k i : ℕ) → corner way n pt (suc k) r i ≡ cond (is_straight_line n pt r i) (corner way n pt k r (step way n i)) i
one_more Back n pt r k i = refl
one_more On n pt r k i = refl

module _ (way : Direction) (n : ℕ) (pt : ℕ → Point) (r : List ℕ) where
  stops_at : (k i : ℕ) → is_straight_line n pt r i ≡ false → corner way n pt k r i ≡ i
  stops_at zero i e = no_more way n pt r i
  stops_at (suc k) i e = one_more way n pt r k i ∙ rw e

  goes_past : (k m i : ℕ) → suc m ≡ k → is_straight_line n pt r i ≡ true → corner way n pt m r (step way n i) ≡ corner way n pt k r i
  goes_past k m i h e = sym (ap (λ k. corner way n pt k r i) (sym h) ∙ one_more way n pt r m i ∙ rw e)

module _ (way : Direction) {v : Vertex} {end : ℕ} {w : Vertex} {left : ℕ} (k : Walk v (λ k i. corner way v.points.n (point_of v) k (ring_of v) i) end w left) where
  there : corner way v.points.n (point_of v) left (ring_of v) (place_of w) ≡ place_of w → w.cursor.position ≡ position v.points.n end
  there e = let f : place_of w ≡ end = sym e ∙ k.same in let s : w.cursor.position.size ≡ v.points.n = w.on_ring.1 ∙ (λ t. (k.points t).n) in λ t. record { id = record { 0 = f t }; size = s t }

  -- at a corner the run ends
  pub run_stops : is_straight_line v.points.n (point_of v) (ring_of v) (place_of w) ≡ false → w.cursor.position ≡ position v.points.n end
  run_stops e = there (stops_at way v.points.n (point_of v) (ring_of v) left (place_of w) e)

  pub run_goes : {m : ℕ} → suc m ≡ left → is_straight_line v.points.n (point_of v) (ring_of v) (place_of w) ≡ true → {q : Vertex} → Moved w (step way w.points.n (place_of w)) q →
      Walk v (λ k i. corner way v.points.n (point_of v) k (ring_of v) i) end q m
  run_goes {m} h e d = walk_steps k (step way) d (goes_past way v.points.n (point_of v) (ring_of v) left m (place_of w) h e)

  -- so it does after all its steps
  pub run_ends : left ≡ 0 → w.cursor.position ≡ position v.points.n end
  run_ends h = there (ap (λ k. corner way v.points.n (point_of v) k (ring_of v) (place_of w)) h ∙ no_more way v.points.n (point_of v) (ring_of v) (place_of w))

-- the corner that is found from a place that was moved to
pub moved_corner : (way : Direction) {v q : Vertex} {i : ℕ} {p : Position} → Moved v i q → p ≡ position q.points.n (corner way q.points.n (point_of q) q.points.n (ring_of q) (place_of q)) →
    p ≡ position v.points.n (corner way v.points.n (point_of v) v.points.n (ring_of v) i)
moved_corner way m e = e ∙ (λ t. position (m.points t).n (corner way (m.points t).n (spots (m.points t)) (m.points t).n (m.ring t).now (m.position t).id.0))

-- ---- the run of the edge at a, from the corner back of it to the corner ahead
module _ (pt : ℕ → Point) (r : List ℕ) {n a : ℕ} (l : a < n) where
  abbrev corner_back : ℕ
  corner_back = run_back n pt n r a

  abbrev corner_on : ℕ
  corner_on = run_on n pt n r (next n a)

  pub back_lt : corner_back < n
  back_lt = run_back_lt n pt r n a l

  pub on_lt : corner_on < n
  on_lt = run_on_lt n pt r n (next n a) (next_lt n a l)

  pub run_in : {s : Run} → s ≡ run_from n pt r a → RunIn n s
  run_in e = subst⁻¹ (RunIn n) e (record { size = refl; below = back_lt; few = dist_lt n corner_back back_lt corner_on on_lt })

-- the run of an edge at a place that was moved to
pub moved_run : {v w : Vertex} {i : ℕ} {s : Run} → Moved v i w → s ≡ run_from w.points.n (point_of w) (ring_of w) (place_of w) → s ≡ run_from v.points.n (point_of v) (ring_of v) i
moved_run m e = e ∙ (λ t. run_from (m.points t).n (spots (m.points t)) (m.ring t).now (m.position t).id.0)
