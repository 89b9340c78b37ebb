-- The middle of the start.
use mathlib.Core.Path.{◌≡◌, sym, ap, subst, ◌∙◌}
use mathlib.Core.List.{List, [], ◌∷◌, ◌++◌}
use Prim.Native.Nat.{ℕ, ◌-◌, ◌*◌, ◌≤◌}
use native.Mathlib.Omega.{arith}
use lib.ListN.{length, take, drop, take-append-drop}
use Rattle.geometry.specs.Plane.{Point}
use Rattle.index_edge.specs.Edge.{Edge}
use Rattle.intersection_set.specs.Store.{Store, empty}
use Rattle.machine.specs.Machine.{nothing_twice, pairs_with, pairs, start, begin}
use Rattle.polygon.specs.Edges.{edges}
use Rattle.machine.proofs.Exactly.{start_exact}
use Rattle.machine.proofs.Bounds.{few, pairs_with_append, pairs_append}
use Rattle.intersection_set.proofs.Slots.{Numbered, numbered_kept, numbered_empty, Grows, grows_then}
use Rattle.machine.proofs.Kept.{pairs_kept, pairs_with_kept, pairs_with_grows, pairs_grows}
use Rattle.machine.proofs.Room.{Roomy}

-- ---- after i edges of the inner loop for e, which comes after those of xs
pub mid_start : (n : ℕ) (pt : ℕ → Point) (r : List ℕ) (xs ys : List Edge) (e : Edge) (i : ℕ) → edges n r ≡ xs ++ e ∷ ys
    → Roomy n pt (pairs_with pt e (take i (edges n r)) (pairs pt (edges n r) xs empty))
mid_start n pt r xs ys e i h =
    let E : List Edge = edges n r in
    let t : Store = pairs pt E xs empty in
    let u : Store = pairs_with pt e (take i E) t in
    let z : Store = start n pt r in
    let p : Numbered u = pairs_with_kept Numbered numbered_kept pt e (take i E) t (pairs_kept Numbered numbered_kept pt E xs empty numbered_empty) in
    let eq : pairs pt E ys (pairs_with pt e (drop i E) u) ≡ z
    = sym
    (ap (λ (l : List Edge). pairs pt E l empty) h
    ∙ pairs_append pt E xs (e ∷ ys) empty
    ∙ ap (pairs pt E ys) (ap (λ (l : List Edge). pairs_with pt e l t) (sym (take-append-drop i E)) ∙ pairs_with_append pt e (take i E) (drop i E) t)) in
    let after : Grows u z = subst (Grows u) eq (grows_then u _ _ (pairs_with_grows pt e (drop i E) u) (pairs_grows pt E ys (pairs_with pt e (drop i E) u))) in
    let all : Grows empty z = pairs_grows pt E E empty in
    let f : length z.dense ≤ n * (n - 1) = few n pt nothing_twice (begin n pt r).now [] (start_exact n pt r) in
    record { numbered = p; lives = omega (arith, f, after.more); slots = omega (arith, f, after.up, all.most) }
