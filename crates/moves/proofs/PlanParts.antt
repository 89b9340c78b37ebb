-- The move for a record, part by part: its edges start where the ring directs them, and they meet there.
use mathlib.Core.Path.{◌≡◌, sym, ◌∙◌, ap}
use mathlib.Core.List.{List}
use Prim.Native.Nat.{ℕ, ◌<◌}
use Rattle.geometry.specs.Plane.{Point}
use Rattle.index_edge.specs.Edge.{Edge}
use Rattle.polygon.specs.Ring.{next, at, IsRing}
use Rattle.polygon.specs.Edges.{edge_at, direct}
use Rattle.polygon.specs.Place.{position}
use Rattle.polygon.specs.declared.position.Position.{Position}
use Rattle.machine.specs.Board.{Board, meet_edges}
use Rattle.machine.proofs.EdgesMeet.{meets_ends}
use Rattle.machine.proofs.Planned.{direct_finds}
use Rattle.moves.specs.Plan.{Met, Crossing}

-- ---- where the edges of a record start
module _ {n : ℕ} {pt : ℕ → Point} {r : List ℕ} {e f : Edge} {a b : ℕ} (ring : IsRing n r) (board : Board n pt) (k : Crossing n pt r e f) (ea : a ≡ direct n r e) (eb : b ≡ direct n r f) where
  first_starts : (direct n r e < n) × (edge_at n r (direct n r e) ≡ e)
  first_starts = direct_finds n pt board.three board.distinct board.not_line r ring e k.first

  second_starts : (direct n r f < n) × (edge_at n r (direct n r f) ≡ f)
  second_starts = direct_finds n pt board.three board.distinct board.not_line r ring f k.second

  pub starts_within : (a < n) × (b < n)
  starts_within = rw (ea, eb) (first_starts.0, second_starts.0)

  pub starts_met : Met n pt r a b
  starts_met =
      let i = direct n r e in
      let j = direct n r f in
      let pe = first_starts.1 in
      let pf = second_starts.1 in
      rw (ea, eb)
      (record {
        apart = λ z. k.differ (sym pe ∙ ap (edge_at n r) z ∙ pf);
        meet = sym (meets_ends pt (at r i) (at r (next n i)) (at r j) (at r (next n j))) ∙ (λ t. meet_edges pt (pe t) (pf t)) ∙ k.meet;
      })

-- the ring's length is the number of points
pub directed : {n m : ℕ} (r : List ℕ) (e : Edge) {q : Position} → n ≡ m → q ≡ position m (direct m r e) → q ≡ position n (direct n r e)
directed r e h f = f ∙ ap (λ m. position m (direct m r e)) (sym h)
