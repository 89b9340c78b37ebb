-- The lines of a fit image fill a pool.
use mathlib.Core.Path.{subst, sym}
use mathlib.Core.List.{List}
use mathlib.Core.Logic.{◌≢◌}
use Prim.Native.Nat.{ℕ, ◌≤◌, ◌<◌}
use native.Mathlib.Omega.{arith}
use lib.ListN.{length}
use Rattle.algebra.specs.Cases.{both, true_or_false, never}
use Rattle.algebra.specs.Counting.{count_at}
use Rattle.geometry.specs.Plane.{Point}
use Rattle.index_edge.specs.Edge.{Edge, edge}
use Rattle.index_edge.proofs.Edges.{eq_edge_refl}
use Rattle.polygon.specs.Ring.{IsRing, next, at}
use Rattle.polygon.specs.Edges.{IsEdge}
use Rattle.polygon.proofs.Positions.{next_lt, next_not}
use Rattle.intersection_set.specs.Store.{no_rec}
use Rattle.intersection_set.specs.Within.{Proper}
use Rattle.intersection_set.proofs.Records.{is_pair, counted_is}
use Rattle.machine.specs.Board.{Board}
use Rattle.machine.specs.Demand3.{Pair}
use Rattle.machine.proofs.Scans.{found}
use Rattle.machine.proofs.Demand3Holds.{found_pair, pair_found}
use Rattle.resume.specs.Image.{Image, slotted}
use Rattle.resume.specs.Fit.{Fit}
use Rattle.resume.proofs.Renumbering.{slotted_length}
use Rattle.resume.proofs.Images.{names_few}
use Rattle.refill.specs.Filling.{line_at, Fills}
use Rattle.refill.proofs.Filling.{slotted_is}

-- a ring's edge is one of two different points
proper : {n : ℕ} {r : List ℕ} {e : Edge} → IsRing n r → 2 ≤ n → IsEdge n r e → Proper n e
proper {n} {r} ring two (i, l, is) =
    let j = next_lt n i l in
    subst (Proper n) is (between (ring.below i l) (ring.below (next n i) j) (λ z. next_not n i two l (sym (ring.apart i (next n i) l j z))))
  where
    between : {a b : ℕ} → a < n → b < n → a ≢ b → Proper n (edge a b)
    between a b d = grind arith

module _ (n : ℕ) (pt : ℕ → Point) (board : Board n pt) (m : Image) (fit : Fit n pt m) where
  -- each line names two edges of the ring that meet
  pair : (i : ℕ) → i < length m.lines → let l = line_at m.lines i in Pair n pt m.ring l.e0 l.e1
  pair i h =
      let e : Edge = (line_at m.lines i).e0 in
      let f : Edge = (line_at m.lines i).e1 in
      both (true_or_false (found n pt m.ring e f)) (found_pair n pt board m.ring fit.ring e f)
      (λ t.
      absurd
      (omega (
        arith,
        fit.names.only e f (λ p. never (found n pt m.ring e f) (pair_found n pt board m.ring fit.ring e f p) t),
        counted_is e f (slotted 0 m.lines),
        count_at (is_pair e f) (slotted 0 m.lines) i no_rec (omega (arith, h, slotted_length 0 m.lines))
            (rw (slotted_is m.lines i h, eq_edge_refl e, eq_edge_refl f)),
      )))

  pub fit_fills : n ≤ 256 → Fills n m.lines
  fit_fills small =
      record {
        small = small;
        room = omega (arith, names_few n pt board m.ring (slotted 0 m.lines) fit.ring fit.names, slotted_length 0 m.lines);
        ages = fit.ages;
        sound = λ i h. let p = pair i h in record { first = proper fit.ring two p.first; second = proper fit.ring two p.second; ordered = p.in_order };
      }
    where
      two : 2 ≤ n
      two = omega (arith, board.three)
