-- What a push and a removal keep is kept by every search and every move; and searches only grow the store.
use mathlib.Core.Bool.{not, ◌&&◌}
use mathlib.Core.List.{List, [], ◌∷◌}
use Prim.Native.Nat.{ℕ}
use Rattle.geometry.specs.Plane.{Point}
use Rattle.index_edge.specs.Edge.{Edge, eq_edge, lt_edge}
use Rattle.polygon.specs.Edges.{edges}
use Rattle.polygon.specs.Change.{Plan, cut, lay, turned}
use Rattle.intersection_set.specs.Store.{Store}
use Rattle.intersection_set.proofs.Slots.{Kept, push_if_kept, removes_kept, Grows, grows_same, grows_then, push_if_grows}
use Rattle.machine.specs.Board.{meet_edges}
use Rattle.machine.specs.Machine.{State, scan_over, scans, pairs_with, pairs, carry}

module _ (Q : Store → Type 0) (kept : Kept Q) (pt : ℕ → Point) where
  pub scan_over_kept : (e : Edge) (l : List Edge) (s : Store) → Q s → Q (scan_over pt e l s)
  scan_over_kept e [] s q = q
  scan_over_kept e (f ∷ l) s q = scan_over_kept e l _ (push_if_kept Q kept (not (eq_edge f e) && meet_edges pt f e) f e s q)

  pub scans_kept : (all ls : List Edge) (s : Store) → Q s → Q (scans pt all ls s)
  scans_kept all [] s q = q
  scans_kept all (e ∷ ls) s q = scans_kept all ls (scan_over pt e all s) (scan_over_kept e all s q)

  pub pairs_with_kept : (e : Edge) (l : List Edge) (s : Store) → Q s → Q (pairs_with pt e l s)
  pairs_with_kept e [] s q = q
  pairs_with_kept e (f ∷ l) s q = pairs_with_kept e l _ (push_if_kept Q kept (lt_edge e f && meet_edges pt e f) e f s q)

  pub pairs_kept : (all l : List Edge) (s : Store) → Q s → Q (pairs pt all l s)
  pairs_kept all [] s q = q
  pairs_kept all (e ∷ l) s q = pairs_kept all l (pairs_with pt e all s) (pairs_with_kept e all s q)

  pub carry_kept : (n : ℕ) (m : Plan) (s : State) → Q s.store → Q (carry n pt m s).store
  carry_kept n m s q = scans_kept (edges n (turned n m s.ring)) (lay n m s.ring) _ (removes_kept Q kept (cut n m s.ring) s.store q)

module _ (pt : ℕ → Point) where
  pub scan_over_grows : (e : Edge) (l : List Edge) (s : Store) → Grows s (scan_over pt e l s)
  scan_over_grows e [] s = grows_same s
  scan_over_grows e (f ∷ l) s = grows_then s _ _ (push_if_grows (not (eq_edge f e) && meet_edges pt f e) f e s) (scan_over_grows e l _)

  pub scans_grows : (all ls : List Edge) (s : Store) → Grows s (scans pt all ls s)
  scans_grows all [] s = grows_same s
  scans_grows all (e ∷ ls) s = grows_then s _ _ (scan_over_grows e all s) (scans_grows all ls (scan_over pt e all s))

  pub pairs_with_grows : (e : Edge) (l : List Edge) (s : Store) → Grows s (pairs_with pt e l s)
  pairs_with_grows e [] s = grows_same s
  pairs_with_grows e (f ∷ l) s = grows_then s _ _ (push_if_grows (lt_edge e f && meet_edges pt e f) e f s) (pairs_with_grows e l _)

  pub pairs_grows : (all l : List Edge) (s : Store) → Grows s (pairs pt all l s)
  pairs_grows all [] s = grows_same s
  pairs_grows all (e ∷ l) s = grows_then s _ _ (pairs_with_grows e all s) (pairs_grows all l (pairs_with pt e all s))
