-- One statement for every plan: the ring after a move is a ring, and its edges are those that are not cut and those that are laid.
use mathlib.Core.Path.{◌≡◌, refl}
use mathlib.Core.Bool.{true, false, not, ◌&&◌, ◌||◌}
use mathlib.Core.List.{List}
use Prim.Native.Nat.{ℕ, ◌≤◌}
use Rattle.polygon.specs.Change.{Plan, stay, uncross, hoist, cut, lay, turned, Fits}
use Rattle.index_edge.specs.Edge.{Edge, edge_in}
use Rattle.polygon.specs.Ring.{next, IsRing}
use Rattle.polygon.specs.Edges.{edges}
use Rattle.algebra.specs.Cases.{both, never, true_or_false}
use Rattle.polygon.proofs.Positions.{next_lt}
use Rattle.polygon.proofs.RingEdges.{reversed_ring, joined_ring}
use Rattle.polygon.proofs.Uncrossing.{uncross_edges}
use Rattle.polygon.proofs.Hoisting.{hoist_edges}
use Rattle.polygon.proofs.LaidEdges.{uncross_lay_new, hoist_lay_cut}

pub turned_ring : (n : ℕ) (m : Plan) (r : List ℕ) → Fits n m → IsRing n r → IsRing n (turned n m r)
turned_ring n stay r w ring = ring
turned_ring n (uncross a b) r w ring = reversed_ring n r (next n a) b (next_lt n a w.la) w.lb ring
turned_ring n (hoist k p) r w ring = joined_ring n r p k w.lp w.lk w.kp ring

pub turned_edges : (n : ℕ) (m : Plan) (r : List ℕ) → Fits n m → IsRing n r → 3 ≤ n →
    (e : Edge) → edge_in e (edges n (turned n m r)) ≡ (edge_in e (edges n r) && not (edge_in e (cut n m r))) || edge_in e (lay n m r)
turned_edges n stay r w ring three e = both (true_or_false (edge_in e (edges n r))) (λ h. rw h) (λ h. rw h)
turned_edges n (uncross a b) r w ring three e = uncross_edges n r a b w.la w.lb w.ab ring three e
turned_edges n (hoist k p) r w ring three e = hoist_edges n r k p w.lk w.lp w.kp w.not_on ring three e

-- a laid edge that was there before is one of the cut ones
pub lay_cut : (n : ℕ) (m : Plan) (r : List ℕ) → Fits n m → IsRing n r → 3 ≤ n →
    (e : Edge) → edge_in e (lay n m r) ≡ true → edge_in e (edges n r) ≡ true → edge_in e (cut n m r) ≡ true
lay_cut n stay r w ring three e h g = never false h refl
lay_cut n (uncross a b) r w ring three e h g = never (edge_in e (edges n r)) g (uncross_lay_new n r ring three a b w.la w.lb w.ab w.not_on w.not_back e h)
lay_cut n (hoist k p) r w ring three e h g = hoist_lay_cut n r ring three k p w.lk w.lp w.kp w.not_on e h g
