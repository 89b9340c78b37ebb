-- Edges: no direction, equality, membership, and the order.
use mathlib.Core.Path.{◌≡◌, refl, sym, ◌∙◌, ap}
use mathlib.Core.Bool.{Bool, true, false, not, ◌&&◌, true≢false, or-false}
use mathlib.Core.List.{List, ◌∷◌}
use mathlib.Core.Logic.{◌⊎◌, inl, inr, ◌≢◌}
use Prim.Native.Nat.{ℕ, suc}
use native.Mathlib.Omega.{arith}
use lib.Dec.{eqb, ltb}
use borrow.Author.Tests.{ltb-true, ltb-false, eqb-true, eqb-false, lt-ltb, le-ltb, eq-eqb, ne_eqb}
use Rattle.algebra.specs.Cases.{both, le_cases, eq_cases, true_or_false, never, or_cases, or_right, and_left, and_right, same_test}
use Rattle.index_edge.specs.Edge.{Edge, edge, eq_edge, lt_edge, edge_in}

-- ---- an edge has no direction
pub edge_eq : (e f : Edge) → e.lo ≡ f.lo → e.hi ≡ f.hi → e ≡ f
edge_eq e f p q = λ i. record { lo = p i; hi = q i }

pub edge_sym : (a b : ℕ) → edge a b ≡ edge b a
edge_sym a b =
    both (le_cases (suc a) b)
    (λ h. both (le_cases (suc b) a) (λ g. absurd (omega arith)) (λ g. rw (h.1, g.1)))
    (λ h. both (le_cases (suc b) a) (λ g. rw (h.1, g.1)) (λ g. rw (h.1, g.1) (edge_eq _ _ (omega arith) (omega arith))))

-- ---- tests on edges
pub eq_edge_true : (e f : Edge) → eq_edge e f ≡ true → e ≡ f
eq_edge_true e f t =
    both (eq_cases e.lo f.lo)
    (λ h. both (eq_cases e.hi f.hi) (λ g. edge_eq e f h.0 g.0) (λ g. never (eq_edge e f) t (rw (h.1, g.1))))
    (λ h. never (eq_edge e f) t (rw h.1))

pub eq_edge_of : (e f : Edge) → e ≡ f → eq_edge e f ≡ true
eq_edge_of e f p = rw (eq-eqb e.lo f.lo (ap (λ (x : Edge). x.lo) p), eq-eqb e.hi f.hi (ap (λ (x : Edge). x.hi) p))

pub eq_edge_refl : (e : Edge) → eq_edge e e ≡ true
eq_edge_refl e = eq_edge_of e e refl

pub eq_edge_false : (e f : Edge) → e ≢ f → eq_edge e f ≡ false
eq_edge_false e f h = both (true_or_false (eq_edge e f)) (λ t. absurd (h (eq_edge_true e f t))) (λ t. t)

module _ (e f : Edge) (l : List Edge) where
  pub member_here : e ≡ f → edge_in e (f ∷ l) ≡ true
  member_here p = rw (eq_edge_of e f p)

  pub member_there : edge_in e l ≡ true → edge_in e (f ∷ l) ≡ true
  member_there h = or_right (eq_edge e f) (edge_in e l) h

  pub member_cases : edge_in e (f ∷ l) ≡ true → (e ≡ f) ⊎ (edge_in e l ≡ true)
  member_cases h = both (or_cases (eq_edge e f) (edge_in e l) h) (λ g. inl (eq_edge_true e f g)) (λ g. inr g)

  pub not_member : e ≢ f → edge_in e l ≡ false → edge_in e (f ∷ l) ≡ false
  not_member h g = rw (eq_edge_false e f h) g

  pub not_head : edge_in e (f ∷ l) ≡ false → e ≢ f
  not_head h p = never (edge_in e (f ∷ l)) (member_here p) h

  pub not_tail : edge_in e (f ∷ l) ≡ false → edge_in e l ≡ false
  not_tail h = both (true_or_false (edge_in e l)) (λ g. never (edge_in e (f ∷ l)) (member_there g) h) (λ g. g)

pub eq_edge_sym : (e f : Edge) → eq_edge e f ≡ eq_edge f e
eq_edge_sym e f = same_test (eq_edge e f) (eq_edge f e) (λ h. eq_edge_of f e (sym (eq_edge_true e f h))) (λ h. eq_edge_of e f (sym (eq_edge_true f e h)))

ltb_other : (a b : ℕ) → (a ≡ b → ⊥) → ltb b a ≡ not (ltb a b)
ltb_other a b h =
    both (true_or_false (ltb a b)) (λ p. rw (p, le-ltb b a (omega (arith, ltb-true a b p)))) (λ p. rw (p, lt-ltb b a (omega (arith, h, ltb-false a b p))))

lt_same : (e f : Edge) → e.lo ≡ f.lo → lt_edge e f ≡ ltb e.hi f.hi
lt_same e f h = rw (le-ltb e.lo f.lo (omega arith), eq-eqb e.lo f.lo h)

lt_diff : (e f : Edge) → (e.lo ≡ f.lo → ⊥) → lt_edge e f ≡ ltb e.lo f.lo
lt_diff e f h = rw (ne_eqb e.lo f.lo h, or-false)

eq_edge_lo : (e f : Edge) → e.lo ≡ f.lo → eq_edge e f ≡ eqb e.hi f.hi
eq_edge_lo e f h = rw (eq-eqb e.lo f.lo h)

-- the order of edges: of two different edges just one is the smaller
pub lt_edge_irrefl : (e : Edge) → lt_edge e e ≡ false
lt_edge_irrefl e = lt_same e e refl ∙ le-ltb e.hi e.hi (omega arith)

pub lt_edge_other : (e f : Edge) → eq_edge e f ≡ false → lt_edge f e ≡ not (lt_edge e f)
lt_edge_other e f h =
    both (true_or_false (eqb e.lo f.lo))
    (λ p.
    let q : e.lo ≡ f.lo = eqb-true e.lo f.lo p in
    rw (lt_same e f q, lt_same f e (sym q)) (ltb_other e.hi f.hi (eqb-false e.hi f.hi (sym (eq_edge_lo e f q) ∙ h))))
    (λ p.
    let q : e.lo ≡ f.lo → ⊥ = eqb-false e.lo f.lo p in
    rw (lt_diff e f q, lt_diff f e (λ r. q (sym r))) (ltb_other e.lo f.lo q))

pub lt_edge_diff : (e f : Edge) → lt_edge e f ≡ true → eq_edge e f ≡ false
lt_edge_diff e f h =
    both (true_or_false (eq_edge e f)) (λ p. absurd (true≢false (sym h ∙ ap (lt_edge e) (sym (eq_edge_true e f p)) ∙ lt_edge_irrefl e))) (λ p. p)

pub lt_edge_asym : (e f : Edge) → lt_edge e f ≡ true → lt_edge f e ≡ false
lt_edge_asym e f h = lt_edge_other e f (lt_edge_diff e f h) ∙ ap not h

-- a test on an edge that is a given one
pub at_edge : (a x : Edge) (q : Edge → Bool) → (eq_edge a x && q x) ≡ (eq_edge a x && q a)
at_edge a x q = both (true_or_false (eq_edge a x)) (λ p. ap (λ (y : Edge). eq_edge a x && q y) (sym (eq_edge_true a x p))) (λ p. rw p)

pub at_pair : (a b x y : Edge) (q : Edge → Edge → Bool) → ((eq_edge a x && eq_edge b y) && q x y) ≡ ((eq_edge a x && eq_edge b y) && q a b)
at_pair a b x y q =
    both (true_or_false (eq_edge a x && eq_edge b y))
    (λ p. rw (eq_edge_true a x (and_left (eq_edge a x) (eq_edge b y) p), eq_edge_true b y (and_right (eq_edge a x) (eq_edge b y) p)))
    (λ p. rw p)
