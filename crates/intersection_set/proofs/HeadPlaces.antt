-- Where an edge's head stands: inside, and apart from the others'.
use mathlib.Core.Path.{◌≡◌, sym, ap, ◌∙◌}
use mathlib.Core.Bool.{cond, true≢false}
use mathlib.Core.List.{List}
use Prim.Native.Nat.{ℕ, suc, ◌+◌, ◌-◌, ◌*◌, ◌≤◌, ◌<◌}
use native.Mathlib.Omega.{arith}
use native.Mathlib.Nat.{mul-le-mul_left}
use borrow.Author.Tests.{ltb-true, ltb-false}
use lib.Dec.{ltb}
use lib.ListN.{length, get_or, set}
use lib.Seq.{get_or-set_same, get_or-set_other}
use Rattle.index_edge.specs.Edge.{Edge, eq_edge}
use Rattle.algebra.specs.Cases.{both, true_or_false}
use Rattle.index_edge.proofs.Edges.{eq_edge_true, eq_edge_of}
use Rattle.intersection_set.specs.Lists.{head_place}
use Rattle.intersection_set.specs.Holds.{Placed}
use Rattle.intersection_set.specs.Within.{Proper}

pub placed : {n : ℕ} {e : Edge} → Proper n e → Placed n e
placed h = (h.top, omega (arith, h.up, h.top))

pub head_below : (n : ℕ) (e : Edge) → Placed n e → head_place n e < n * (n - 1)
head_below n e h =
    let u : suc e.lo ≤ n - 1 = omega arith in
    let v : n * suc e.lo ≤ n * (n - 1) = mul-le-mul_left n u in
    omega arith

rows : (n a b x y : ℕ) → x < n → a < b → x + n * a ≡ y + n * b → ⊥
rows n a b x y h k q = let v : n * suc a ≤ n * b = mul-le-mul_left n k in omega arith

pub head_apart : (n : ℕ) (e f : Edge) → Placed n e → Placed n f → head_place n e ≡ head_place n f → e ≡ f
head_apart n e f h k q =
    let p : e.lo ≡ f.lo
    = both (true_or_false (ltb e.lo f.lo)) (λ u. absurd (rows n e.lo f.lo e.hi f.hi h.0 (ltb-true e.lo f.lo u) q))
    (λ u.
    both (true_or_false (ltb f.lo e.lo)) (λ v. absurd (rows n f.lo e.lo f.hi e.hi k.0 (ltb-true f.lo e.lo v) (sym q)))
    (λ v. omega (arith, ltb-false e.lo f.lo u, ltb-false f.lo e.lo v))) in
    let r : e.hi ≡ f.hi = omega (arith, q, ap (λ (x : ℕ). n * x) p) in
    λ i. record { lo = p i; hi = r i }

-- a head written
pub head_write : (n : ℕ) (l : List ℕ) (e g : Edge) (v : ℕ) → n * (n - 1) ≤ length l → Placed n e → Placed n g
    → get_or (set l (head_place n e) v) (head_place n g) 0 ≡ cond (eq_edge g e) v (get_or l (head_place n g) 0)
head_write n l e g v w pe pg =
    both (true_or_false (eq_edge g e))
    (λ u. rw u (ap (λ (x : Edge). get_or (set l (head_place n e) v) (head_place n x) 0) (eq_edge_true g e u) ∙ get_or-set_same l (head_place n e) v 0 (omega (arith, head_below n e pe))))
    (λ u. rw u (get_or-set_other l (head_place n e) (head_place n g) v 0 (λ q. true≢false (sym (eq_edge_of g e (head_apart n g e pg pe q)) ∙ u))))
