-- The edge from the point at a ring position to the next is an edge between two of the points, whose ends differ; and two edges meet whichever is asked first.
use mathlib.Core.Path.{◌≡◌, refl, sym, subst}
use mathlib.Core.Bool.{Bool, true, false, cond}
use mathlib.Core.List.{List}
use mathlib.Core.Logic.{◌≢◌}
use Prim.Native.Nat.{ℕ, ◌≤◌, ◌<◌}
use native.Mathlib.Omega.{arith}
use lib.Dec.{ltb}
use borrow.Author.Tests.{ltb-true, ltb-false}
use Rattle.geometry.specs.Plane.{Point}
use Rattle.index_edge.specs.Edge.{Edge, edge}
use Rattle.index_edge.proofs.Edges.{eq_edge_false}
use Rattle.polygon.specs.Ring.{IsRing, next, at}
use Rattle.polygon.specs.Edges.{edge_at}
use Rattle.polygon.proofs.Positions.{next_lt, next_not}
use Rattle.polygon.proofs.RingEdges.{edges_differ}
use Rattle.intersection_set.specs.Within.{Proper}
use Rattle.machine.specs.Board.{Board, Distinct, meet_edges}
use Rattle.machine.proofs.EdgesMeet.{meet_edges_comm}
use Rattle.sweeps.specs.Query.{met}
use Rattle.sweeps.specs.Sight.{Among}

pub two : {n : ℕ} {pt : ℕ → Point} → Board n pt → 2 ≤ n
two b = omega (arith, b.three)

-- ---- between two numbers
proper_edge : (n a b : ℕ) → a < n → b < n → a ≢ b → Proper n (edge a b)
proper_edge n a b ha hb d = go (ltb a b) refl
  where
    go : (t : Bool) → ltb a b ≡ t → Proper n (cond t (record { lo = a; hi = b }) (record { lo = b; hi = a }))
    go true u = record { up = ltb-true a b u; top = hb }
    go false u = record { up = omega (arith, d, ltb-false a b u); top = ha }

-- and back: an edge between two numbers is one between different numbers below n
pub apart : {n : ℕ} (a b : ℕ) → Proper n (edge a b) → (a < n) × (b < n) × (a ≢ b)
apart {n} a b = go (ltb a b)
  where
    go : (t : Bool) → Proper n (cond t (record { lo = a; hi = b }) (record { lo = b; hi = a })) → (a < n) × (b < n) × (a ≢ b)
    go true p = (omega (arith, p.up, p.top), p.top, λ e. absurd (omega (arith, p.up, e)))
    go false p = (p.top, omega (arith, p.up, p.top), λ e. absurd (omega (arith, p.up, e)))

-- the edge from the point at i to the next
pub edge_is : (n : ℕ) (r : List ℕ) (i : ℕ) {v w : ℕ} → v ≡ at r i → w ≡ at r (next n i) → edge v w ≡ edge_at n r i
edge_is n r i ev ew = λ t. edge (ev t) (ew t)

pub proper_at : {n : ℕ} {r : List ℕ} → IsRing n r → 2 ≤ n → (i : ℕ) → i < n → Proper n (edge_at n r i)
proper_at {n} {r} ring two i l =
    let l' = next_lt n i l in
    proper_edge n (at r i) (at r (next n i)) (ring.below i l) (ring.below (next n i) l')
    (λ z. next_not n i two l (sym (ring.apart i (next n i) l l' z)))

-- ---- between two points
module _ {n : ℕ} {pt : ℕ → Point} (distinct : Distinct n pt) where
  pub ends_differ : {e : Edge} → Proper n e → pt e.lo ≢ pt e.hi
  ends_differ p h = absurd (omega (arith, p.up, distinct _ _ (omega (arith, p.up, p.top)) p.top h))

  pub meet_comm : {e f : Edge} → Proper n e → Proper n f → meet_edges pt e f ≡ meet_edges pt f e
  meet_comm {e} {f} p q = sym (meet_edges_comm pt e f (ends_differ p) (ends_differ q))

  pub points_differ : (a b : ℕ) → Proper n (edge a b) → pt a ≢ pt b
  points_differ a b p h = let d = apart a b p in d.2 (distinct a b d.0 d.1 h)

-- ---- on a ring
module _ {n : ℕ} {pt : ℕ → Point} {r : List ℕ} (ring : IsRing n r) (distinct : Distinct n pt) (three : 3 ≤ n) (i : ℕ) (li : i < n) where
  pub among : {v w : ℕ} (j : ℕ) → j < n → v ≡ at r j → w ≡ at r (next n j) → Among n pt (edge_at n r i) (edge v w)
  among j lj ev ew =
      let two : 2 ≤ n = omega (arith, three) in
      record { distinct = distinct; first = proper_at ring two i li; second = subst (λ e. Proper n e) (sym (edge_is n r j ev ew)) (proper_at ring two j lj) }

  -- the edge at another position is another, so that it is met where the two meet
  pub met_at : (j : ℕ) → i < j → j < n → met pt (edge_at n r i) (edge_at n r j) ≡ meet_edges pt (edge_at n r i) (edge_at n r j)
  met_at j ij lj =
      let two : 2 ≤ n = omega (arith, three) in
      let other = eq_edge_false (edge_at n r j) (edge_at n r i) (λ e. absurd (let z = edges_differ n r ring three j i lj li e in omega (arith, z, ij))) in
      rw other (sym (meet_comm distinct (proper_at ring two i li) (proper_at ring two j lj)))
