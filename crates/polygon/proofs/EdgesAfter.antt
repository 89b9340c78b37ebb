-- What is to be shown, position by position, for the edges of a changed ring to be those that are not cut and those that are laid.
use mathlib.Core.Path.{◌≡◌, refl}
use mathlib.Core.Bool.{Bool, true, false, not, ◌&&◌, ◌||◌}
use mathlib.Core.List.{List}
use mathlib.Core.Logic.{◌⊎◌}
use Prim.Native.Nat.{ℕ, ◌<◌}
use Rattle.index_edge.specs.Edge.{Edge, edge_in}
use Rattle.polygon.specs.Edges.{edge_at, edges}
use Rattle.algebra.specs.Cases.{both, never, same_test, or_cases, or_right}
use Rattle.polygon.proofs.RingEdges.{member_edge}

-- r became r', the edges cs were cut and the edges ls laid
pub record EdgesAfter (n : ℕ) (r r' : List ℕ) (cs ls : List Edge) : Type 0 where
  -- an edge of r' is laid, or it was there and is not cut
  pub fore : (i : ℕ) → i < n → (edge_in (edge_at n r' i) ls ≡ true) ⊎ ((edge_in (edge_at n r' i) (edges n r) ≡ true) × (edge_in (edge_at n r' i) cs ≡ false))
  pub laid : (e : Edge) → edge_in e ls ≡ true → edge_in e (edges n r') ≡ true
  pub kept : (i : ℕ) → i < n → edge_in (edge_at n r i) cs ≡ false → edge_in (edge_at n r i) (edges n r') ≡ true

and_not_cases : (s t : Bool) → (s && not t) ≡ true → (s ≡ true) × (t ≡ false)
and_not_cases true true e = never false e refl
and_not_cases true false e = (refl, refl)
and_not_cases false t e = never false e refl

pub edges_after : {n : ℕ} {r r' : List ℕ} {cs ls : List Edge} → EdgesAfter n r r' cs ls → (e : Edge) → edge_in e (edges n r') ≡ (edge_in e (edges n r) && not (edge_in e cs)) || edge_in e ls
edges_after {n} {r} {r'} {cs} {ls} t e = same_test _ _ to from
  where
    to : edge_in e (edges n r') ≡ true → ((edge_in e (edges n r) && not (edge_in e cs)) || edge_in e ls) ≡ true
    to m = let (i, l, p) = member_edge n r' e m in
        both (t.fore i l)
        (λ h. or_right (edge_in e (edges n r) && not (edge_in e cs)) (edge_in e ls) (rw p at h))
        (λ h. rw (rw p at h.0, rw p at h.1))

    from : ((edge_in e (edges n r) && not (edge_in e cs)) || edge_in e ls) ≡ true → edge_in e (edges n r') ≡ true
    from m =
        both (or_cases (edge_in e (edges n r) && not (edge_in e cs)) (edge_in e ls) m)
        (λ h. let (a, b) = and_not_cases (edge_in e (edges n r)) (edge_in e cs) h in let (i, l, p) = member_edge n r e a in rw p at (t.kept i l (rw (← p) at b)))
        (λ h. t.laid e h)
