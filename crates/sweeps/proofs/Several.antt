-- Sweeps and removals for several edges, one after the other.
use mathlib.Core.Path.{◌≡◌, refl, sym, ap, subst, ◌∙◌}
use mathlib.Core.List.{List, [], ◌∷◌, ◌++◌, map}
use Prim.Native.Nat.{ℕ, suc, ◌+◌, ◌<◌}
use native.Mathlib.Omega.{arith}
use native.Mathlib.Numerals.{add-one}
use lib.ListN.{length, get_or, take, drop, take-append-drop, length-map, get_or-map}
use lib.Seq.{take-suc, take-length}
use Rattle.geometry.specs.Plane.{Point}
use Rattle.index_edge.specs.Edge.{Edge}
use Rattle.index_edge.specs.Number.{edge_of}
use Rattle.index_edge.specs.declared.IndexEdge.{IndexEdge}
use Rattle.polygon.specs.Edges.{edge_at, edges}
use Rattle.intersection_set.specs.Store.{Store, remove_all, removes}
use Rattle.intersection_set.proofs.Slots.{Grows}
use Rattle.machine.proofs.Bounds.{scans_append, pairs_append}
use Rattle.machine.proofs.Kept.{scans_grows, pairs_grows}
use Rattle.machine.proofs.Turns.{scans_turn, start_outer, edges_at}
use Rattle.sweeps.specs.declared.candidate.Against.{Against}
use Rattle.sweeps.specs.declared.candidate.Against.TheVariants.{Others, Greater}
use Rattle.sweeps.specs.Sweep.{sweep_over, Fits}
use Rattle.sweeps.specs.Several.{nowhere, sweeps_over, FitAll}

abbrev pub zero_edge : IndexEdge
zero_edge = record { min = record { 0 = 0 }; max = record { 0 = 0 } }

-- ---- an edge of a list, and one of the ring
pub in_edges : (xs : List IndexEdge) {i : ℕ} → i < length xs → i < length (map edge_of xs)
in_edges xs l = omega (arith, l, length-map xs edge_of)

pub edge_there : (xs : List IndexEdge) (i : ℕ) → i < length xs → edge_of (get_or xs i zero_edge) ≡ get_or (map edge_of xs) i nowhere
edge_there xs i l = sym (get_or-map edge_of xs i zero_edge)

pub ring_edge : (n : ℕ) (r : List ℕ) (i : ℕ) → i < n → {e : Edge} → e ≡ edge_at n r i → e ≡ get_or (edges n r) i nowhere
ring_edge n r i l ee = ee ∙ sym (edges_at n r i nowhere l)

-- ---- sweeps
module _ (pt : ℕ → Point) where
  sweeps_append : (b : Against) (all xs ys : List Edge) (s : Store) → sweeps_over pt b all (xs ++ ys) s ≡ sweeps_over pt b all ys (sweeps_over pt b all xs s)
  sweeps_append Others all xs ys s = scans_append pt all xs ys s
  sweeps_append Greater all xs ys s = pairs_append pt all xs ys s

  sweeps_grows : (b : Against) (all l : List Edge) (s : Store) → Grows s (sweeps_over pt b all l s)
  sweeps_grows Others all l s = scans_grows pt all l s
  sweeps_grows Greater all l s = pairs_grows pt all l s

  sweeps_turn : (b : Against) (all l : List Edge) (i : ℕ) (s : Store) → i < length l
      → sweeps_over pt b all (take (suc i) l) s ≡ sweep_over pt b (get_or l i nowhere) all (sweeps_over pt b all (take i l) s)
  sweeps_turn Others all l i s h = scans_turn pt all l i nowhere s h
  sweeps_turn Greater all l i s h = start_outer pt all l i nowhere s h

  pub sweeps_all : (b : Against) (all l : List Edge) (i : ℕ) (s : Store) → i ≡ length l → sweeps_over pt b all (take i l) s ≡ sweeps_over pt b all l s
  sweeps_all b all l i s h = ap (λ (m : List Edge). sweeps_over pt b all m s) (ap (λ k. take k l) h ∙ take-length l)

  -- a turn of the code: it has the edge e
  module _ (n : ℕ) (r : List ℕ) (b : Against) (l : List Edge) (i : ℕ) (s : Store) (h : i < length l) {e : Edge} (q : e ≡ get_or l i nowhere) where
    pub next_sweep : sweep_over pt b e (edges n r) (sweeps_over pt b (edges n r) (take i l) s) ≡ sweeps_over pt b (edges n r) (take (i + 1) l) s
    next_sweep =
        ap (λ (f : Edge). sweep_over pt b f (edges n r) (sweeps_over pt b (edges n r) (take i l) s)) q
        ∙ sym (sweeps_turn b (edges n r) l i s h)
        ∙ ap (λ m. sweeps_over pt b (edges n r) (take m l) s) (sym (add-one i))

    -- the end of all bounds this one's end
    pub fits_now : FitAll n pt r b l s → Fits n pt r b e (sweeps_over pt b (edges n r) (take i l) s)
    fits_now f =
        let all : List Edge = edges n r in
        let upto : Store = sweeps_over pt b all (take (i + 1) l) s in
        let whole : sweeps_over pt b all (drop (i + 1) l) upto ≡ sweeps_over pt b all l s
        = sym (sweeps_append b all (take (i + 1) l) (drop (i + 1) l) s) ∙ ap (λ (m : List Edge). sweeps_over pt b all m s) (take-append-drop (i + 1) l) in
        let part : Grows upto (sweeps_over pt b all l s) = subst (Grows upto) whole (sweeps_grows b all (drop (i + 1) l) upto) in
        record {
          few = omega (arith, f.few, ap (λ (u : Store). length u.dense) next_sweep, part.more);
          young = omega (arith, f.young, ap (λ (u : Store). u.pushes) next_sweep, part.pushed);
        }

-- ---- removals
removes_append : (xs ys : List Edge) (s : Store) → removes (xs ++ ys) s ≡ removes ys (removes xs s)
removes_append [] ys s = refl
removes_append (e ∷ xs) ys s = removes_append xs ys (remove_all e s)

pub next_removal : (l : List Edge) (i : ℕ) (s : Store) → i < length l → {e : Edge} → e ≡ get_or l i nowhere
    → remove_all e (removes (take i l) s) ≡ removes (take (i + 1) l) s
next_removal l i s h q =
    let one_more : take (i + 1) l ≡ take i l ++ get_or l i nowhere ∷ [] = ap (λ k. take k l) (add-one i) ∙ take-suc l i nowhere h in
    ap (λ (f : Edge). remove_all f (removes (take i l) s)) q
    ∙ sym (ap (λ (m : List Edge). removes m s) one_more ∙ removes_append (take i l) (get_or l i nowhere ∷ []) s)

pub removes_of_all : (l : List Edge) (i : ℕ) (s : Store) → i ≡ length l → removes (take i l) s ≡ removes l s
removes_of_all l i s h = ap (λ (m : List Edge). removes m s) (ap (λ k. take k l) h ∙ take-length l)
