-- One turn of each of the program's loops over edges.
use mathlib.Core.Path.{◌≡◌, ap, ◌∙◌}
use mathlib.Core.Bool.{not, ◌&&◌, cond}
use mathlib.Core.List.{List, [], ◌∷◌}
use Prim.Native.Nat.{ℕ, suc, ◌<◌}
use native.Mathlib.Omega.{arith}
use lib.ListN.{length, get_or, take}
use lib.Seq.{take-suc}
use Rattle.geometry.specs.Plane.{Point}
use Rattle.index_edge.specs.Edge.{Edge, eq_edge, lt_edge}
use Rattle.intersection_set.specs.Store.{Store, push}
use Rattle.polygon.specs.Edges.{edge_at, edges}
use Rattle.machine.specs.Board.{meet_edges}
use Rattle.machine.specs.Machine.{scan_over, scans, pairs_with, pairs}
use Rattle.machine.proofs.Bounds.{scan_over_append, scans_append, pairs_with_append, pairs_append}
use Rattle.algebra.specs.Ranges.{table_at}

-- the edge at a position
pub edges_at : (n : ℕ) (r : List ℕ) (j : ℕ) (d : Edge) → j < n → get_or (edges n r) j d ≡ edge_at n r j
edges_at n r j d h = table_at (edge_at n r) d 0 n j h ∙ ap (edge_at n r) (omega arith)

module _ (pt : ℕ → Point) where
  -- the scan of e, one position on
  pub scan_turn : (e : Edge) (l : List Edge) (i : ℕ) (d : Edge) (s : Store) → i < length l
      → scan_over pt e (take (suc i) l) s ≡ cond (not (eq_edge (get_or l i d) e) && meet_edges pt (get_or l i d) e) (push (get_or l i d) e (scan_over pt e (take i l) s)) (scan_over pt e (take i l) s)
  scan_turn e l i d s h = ap (λ (m : List Edge). scan_over pt e m s) (take-suc l i d h) ∙ scan_over_append pt e (take i l) (get_or l i d ∷ []) s

  -- the scans of a move, one new edge on
  pub scans_turn : (all l : List Edge) (i : ℕ) (d : Edge) (s : Store) → i < length l → scans pt all (take (suc i) l) s ≡ scan_over pt (get_or l i d) all (scans pt all (take i l) s)
  scans_turn all l i d s h = ap (λ (m : List Edge). scans pt all m s) (take-suc l i d h) ∙ scans_append pt all (take i l) (get_or l i d ∷ []) s

  -- the start's inner and outer loop
  pub start_inner : (e : Edge) (l : List Edge) (i : ℕ) (d : Edge) (s : Store) → i < length l
      → pairs_with pt e (take (suc i) l) s ≡ cond (lt_edge e (get_or l i d) && meet_edges pt e (get_or l i d)) (push e (get_or l i d) (pairs_with pt e (take i l) s)) (pairs_with pt e (take i l) s)
  start_inner e l i d s h = ap (λ (m : List Edge). pairs_with pt e m s) (take-suc l i d h) ∙ pairs_with_append pt e (take i l) (get_or l i d ∷ []) s

  pub start_outer : (all l : List Edge) (i : ℕ) (d : Edge) (s : Store) → i < length l → pairs pt all (take (suc i) l) s ≡ pairs_with pt (get_or l i d) all (pairs pt all (take i l) s)
  start_outer all l i d s h = ap (λ (m : List Edge). pairs pt all m s) (take-suc l i d h) ∙ pairs_append pt all (take i l) (get_or l i d ∷ []) s
