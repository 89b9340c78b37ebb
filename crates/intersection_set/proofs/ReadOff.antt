-- A doubly linked list says the same as the list that it runs through: head, next and previous can be read off it, and make it.
use mathlib.Core.Path.{◌≡◌, refl, ap, subst, ◌∙◌}
use mathlib.Core.Bool.{true, false}
use mathlib.Core.List.{List, [], ◌∷◌}
use Prim.Native.Nat.{ℕ, ◌≤◌}
use native.Mathlib.Omega.{arith}
use borrow.Author.Tests.{eqb-true, eq-eqb, ne_eqb}
use lib.Dec.{eqb}
use Rattle.algebra.specs.Cases.{both, true_or_false}
use Rattle.algebra.specs.Counting.{one, count_p}
use Rattle.intersection_set.specs.Lists.{first_or, after, before}
use Rattle.intersection_set.proofs.Linked.{Linked, OnceN}

abbrev pub In : ℕ → List ℕ → Type 0
In x l = 1 ≤ count_p (eqb x) l

module _ (m : ℕ) (nx pv : ℕ → ℕ) where
  pub linked_head : (l : List ℕ) (p h : ℕ) → Linked m nx pv p h l → h ≡ first_or m l
  linked_head [] p h k = k
  linked_head (y ∷ l) p h k = k.0

  pub linked_next : (l : List ℕ) (p h : ℕ) → Linked m nx pv p h l → (x : ℕ) → In x l → nx x ≡ after m x l
  linked_next [] p h k x i = absurd (omega arith)
  linked_next (y ∷ l) p h k x i =
      both (true_or_false (eqb x y))
      (λ u. rw u (ap nx (eqb-true x y u) ∙ linked_head l y (nx y) k.2))
      (λ u. rw u (linked_next l y (nx y) k.2 x (omega (arith, i, ap one u))))

  pub linked_prev : (l : List ℕ) (p h : ℕ) → Linked m nx pv p h l → (x : ℕ) → In x l → pv x ≡ before p x l
  linked_prev [] p h k x i = absurd (omega arith)
  linked_prev (y ∷ l) p h k x i =
      both (true_or_false (eqb x y))
      (λ u. rw u (ap pv (eqb-true x y u) ∙ k.1))
      (λ u. rw u (linked_prev l y (nx y) k.2 x (omega (arith, i, ap one u))))

  pub linked_of : (l : List ℕ) (p h : ℕ) → OnceN l → h ≡ first_or m l → ((x : ℕ) → In x l → nx x ≡ after m x l) → ((x : ℕ) → In x l → pv x ≡ before p x l)
      → Linked m nx pv p h l
  linked_of [] p h o q f g = q
  linked_of (y ∷ l) p h o q f g =
      let self : eqb y y ≡ true = eq-eqb y y refl in
      let here : In y (y ∷ l) = omega (arith, ap one self) in
      let apart : (x : ℕ) → In x l → eqb x y ≡ false
      = λ x i. ne_eqb x y (λ e. omega (arith, o y, ap one self, subst (λ (z : ℕ). 1 ≤ count_p (eqb z) l) e i)) in (
        q,
        rw self at (g y here),
        linked_of l y (nx y)
            (λ x. omega (arith, o x))
            (rw self at (f y here))
            (λ x i. rw (apart x i) at (f x (omega (arith, i))))
            (λ x i. rw (apart x i) at (g x (omega (arith, i)))),
      )
