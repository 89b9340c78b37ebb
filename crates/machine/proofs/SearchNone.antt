-- The search that answers none has found no kink inside an edge.
use mathlib.Core.Path.{◌≡◌, refl, sym}
use mathlib.Core.Bool.{true, false}
use mathlib.Core.List.{List, [], ◌∷◌, ◌++◌}
use mathlib.Core.Logic.{◌⊎◌, inl, inr}
use Prim.Native.Nat.{ℕ, zero, suc, ◌<◌}
use native.Mathlib.Omega.{arith}
use Rattle.geometry.specs.Plane.{Point}
use Rattle.machine.specs.Search.{Mergable, none, merge, or_else, kink_in, first_kink, search_edges}
use Rattle.polygon.specs.Ring.{next, dist, stretch}
use Rattle.algebra.specs.Cases.{both, eq_cases, true_or_false}
use Rattle.polygon.proofs.Positions.{next_lt}
use Rattle.machine.proofs.Runs.{dist_from}

pub data In (k : ℕ) : List ℕ → Type 0 where
  here : {a : ℕ} {l : List ℕ} → k ≡ a → In k (a ∷ l)
  there : {a : ℕ} {l : List ℕ} → In k l → In k (a ∷ l)

pub in_left : {k : ℕ} {l : List ℕ} (m : List ℕ) → In k l → In k (l ++ m)
in_left m (here e) = here e
in_left m (there h) = there (in_left m h)

pub in_right : {k : ℕ} (l : List ℕ) {m : List ℕ} → In k m → In k (l ++ m)
in_right [] h = h
in_right (a ∷ l) h = there (in_right l h)

pub hoist_none : {A : Type 0} (k p : ℕ) → merge k p ≡ none → A
hoist_none k p e = absurd (let z : ◌≡◌ {A = ℕ} 0 1 = cc in omega arith)

or_else_none : (x y : Mergable) → or_else x y ≡ none → (x ≡ none) × (y ≡ none)
or_else_none none y e = (refl, e)
or_else_none (merge k p) y e = hoist_none k p e

or_else_cases : (x y : Mergable) (k p : ℕ) → or_else x y ≡ merge k p → (x ≡ merge k p) ⊎ (y ≡ merge k p)
or_else_cases none y k p e = inr e
or_else_cases (merge j i) y k p e = inl e

module _ (n : ℕ) (pt : ℕ → Point) where
  pub stretch_in : (m i k : ℕ) → i < n → k < n → dist n i k < m → In k (stretch n i m)
  stretch_in zero i k li lk h = absurd (omega arith)
  stretch_in (suc m) i k li lk h = both (eq_cases i k) (λ e. here (sym e.0)) (λ e. there (stretch_in m (next n i) k (next_lt n i li) lk (let z = dist_from n i k li lk e.0 in omega arith)))

  module _ (r : List ℕ) where
    first_kink_skip : (p j : ℕ) (ks : List ℕ) → first_kink n pt r p (j ∷ ks) ≡ none → (kink_in n pt r j p ≡ false) × (first_kink n pt r p ks ≡ none)
    first_kink_skip p j ks e = both (true_or_false (kink_in n pt r j p)) (λ t. hoist_none j p (rw t at e)) (λ t. (t, rw t at e))

    first_kink_none : (p : ℕ) (ks : List ℕ) → first_kink n pt r p ks ≡ none → (k : ℕ) → In k ks → kink_in n pt r k p ≡ false
    first_kink_none p [] e k x = elim x [ ]
    first_kink_none p (j ∷ ks) e k (here q) = rw q (first_kink_skip p j ks e).0
    first_kink_none p (j ∷ ks) e k (there h) = first_kink_none p ks (first_kink_skip p j ks e).1 k h

    pub search_edges_none : (ks ps : List ℕ) → search_edges n pt r ks ps ≡ none → (k p : ℕ) → In k ks → In p ps → kink_in n pt r k p ≡ false
    search_edges_none ks [] e k p hk x = elim x [ ]
    search_edges_none ks (q ∷ ps) e k p hk (here f) = rw f (first_kink_none q ks (or_else_none (first_kink n pt r q ks) (search_edges n pt r ks ps) e).0 k hk)
    search_edges_none ks (q ∷ ps) e k p hk (there h) = search_edges_none ks ps (or_else_none (first_kink n pt r q ks) (search_edges n pt r ks ps) e).1 k p hk h

    first_kink_found : (p : ℕ) (ks : List ℕ) (k q : ℕ) → first_kink n pt r p ks ≡ merge k q → kink_in n pt r k q ≡ true
    first_kink_found p [] k q e = hoist_none k q (sym e)
    first_kink_found p (j ∷ ks) k q e =
        both (true_or_false (kink_in n pt r j p))
        (λ t. (let z : merge j p ≡ merge k q = rw t at e in let x : k ≡ j = cc in let y : q ≡ p = cc in rw (x, y) t))
        (λ t. first_kink_found p ks k q (rw t at e))

    pub search_edges_found : (ks ps : List ℕ) (k p : ℕ) → search_edges n pt r ks ps ≡ merge k p → kink_in n pt r k p ≡ true
    search_edges_found ks [] k p e = hoist_none k p (sym e)
    search_edges_found ks (q ∷ ps) k p e =
        both (or_else_cases (first_kink n pt r q ks) (search_edges n pt r ks ps) k p e) (λ f. first_kink_found q ks k p f) (λ f. search_edges_found ks ps k p f)
