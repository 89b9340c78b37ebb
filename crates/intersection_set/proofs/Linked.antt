-- One doubly linked list of slots: a push in front, and any slot unlinked. `none` is the number that stands for no slot.
use mathlib.Core.Path.{◌≡◌, refl, sym, ap, subst, ◌∙◌}
use mathlib.Core.Logic.{◌≢◌}
use mathlib.Core.List.{List, [], ◌∷◌, ◌++◌}
use Prim.Native.Nat.{ℕ, ◌≤◌}
use native.Mathlib.Omega.{arith}
use borrow.Author.Tests.{eqb-false, eq-eqb}
use lib.Dec.{eqb}
use Rattle.algebra.specs.Cases.{both, true_or_false}
use Rattle.algebra.specs.Counting.{one, count_p}

abbrev pub Absent : ℕ → List ℕ → Type 0
Absent x l = count_p (eqb x) l ≡ 0

abbrev pub OnceN : List ℕ → Type 0
OnceN l = (x : ℕ) → count_p (eqb x) l ≤ 1

self : (x : ℕ) → one (eqb x x) ≡ 1
self x = ap one (eq-eqb x x refl)

-- from p, the slot before, and h, where the list begins
abbrev pub Linked : ℕ → (ℕ → ℕ) → (ℕ → ℕ) → ℕ → ℕ → List ℕ → Type 0
Linked none nx pv p h [] = h ≡ none
Linked none nx pv p h (x ∷ l) = (h ≡ x) × (pv x ≡ p) × Linked none nx pv x (nx x) l

-- what is not the same is not there
differs : (x y : ℕ) (l : List ℕ) → Absent x (y ∷ l) → y ≢ x
differs x y l h e = omega (arith, h, ap one (eq-eqb x y (sym e)))

later : (x y : ℕ) (l : List ℕ) → Absent x (y ∷ l) → Absent x l
later x y l h = omega arith

once_later : (y : ℕ) (l : List ℕ) → OnceN (y ∷ l) → OnceN l
once_later y l o x = omega (arith, o x)

once_head : (y : ℕ) (l : List ℕ) → OnceN (y ∷ l) → Absent y l
once_head y l o = omega (arith, o y, self y)

abbrev new_head : List ℕ → ℕ → ℕ → ℕ
new_head [] a h = a
new_head (z ∷ l) a h = h

module _ (none : ℕ) (nx pv nx' pv' : ℕ → ℕ) where
  -- only the links of the slots in the list count
  pub linked_agree : (l : List ℕ) (p h : ℕ) → ((y : ℕ) → 1 ≤ count_p (eqb y) l → nx' y ≡ nx y) → ((y : ℕ) → 1 ≤ count_p (eqb y) l → pv' y ≡ pv y)
      → Linked none nx pv p h l → Linked none nx' pv' p h l
  linked_agree [] p h f g k = k
  linked_agree (x ∷ l) p h f g k =
      let here : 1 ≤ count_p (eqb x) (x ∷ l) = omega (arith, self x) in (
        k.0,
        g x here ∙ k.1,
        rw (f x here) (linked_agree l x (nx x) (λ y u. f y (omega arith)) (λ y u. g y (omega arith)) k.2),
      )

  present : (x y : ℕ) (l : List ℕ) → Absent x l → 1 ≤ count_p (eqb y) l → y ≢ x
  present x y l h k e = omega (arith, h, subst (λ (z : ℕ). 1 ≤ count_p (eqb z) l) e k)

  -- ---- a push in front
  pub linked_front : (x h : ℕ) (l : List ℕ) → OnceN l → Absent x l → Absent none l
      → nx' x ≡ h
      → pv' x ≡ none
      → ((y : ℕ) → y ≢ x → nx' y ≡ nx y)
      → (h ≢ none → h ≢ x → pv' h ≡ x)
      → ((y : ℕ) → y ≢ x → y ≢ h → pv' y ≡ pv y)
      → Linked none nx pv none h l
      → Linked none nx' pv' none x (x ∷ l)
  linked_front x h [] o ax an nx-x pv-x nx-o pv-h pv-o k = (refl, pv-x, nx-x ∙ k)
  linked_front x h (y ∷ l) o ax an nx-x pv-x nx-o pv-h pv-o k =
      let hy : h ≡ y = k.0 in
      let yn : h ≢ none = λ u. differs none y l an (sym hy ∙ u) in (
        refl,
        pv-x,
        (
          nx-x ∙ hy,
          ap pv' (sym hy) ∙ pv-h yn (λ u. differs x y l ax (sym hy ∙ u)),
          rw (nx-o y (differs x y l ax))
              (linked_agree l y (nx y)
              (λ z u. nx-o z (present x z l (later x y l ax) u))
              (λ z u. pv-o z (present x z l (later x y l ax) u) (λ w. present y z l (once_head y l o) u (w ∙ hy)))
              k.2),
        ),
      )

  -- ---- a slot unlinked
  module _ (x : ℕ) (l₂ : List ℕ)
      (nx-o : (y : ℕ) → y ≢ pv x → nx' y ≡ nx y)
      (nx-p : pv x ≢ none → nx' (pv x) ≡ nx x)
      (pv-o : (y : ℕ) → y ≢ nx x → pv' y ≡ pv y)
      (pv-n : nx x ≢ none → pv' (nx x) ≡ pv x) where
    -- the slot before x is in front of it, the slot after it behind
    prev_of_lem : (l : List ℕ) (p h z : ℕ) → Absent z (l ++ x ∷ l₂) → z ≢ p → Linked none nx pv p h (l ++ x ∷ l₂) → pv x ≢ z
    prev_of_lem [] p h z a d k e = d (sym e ∙ k.1)
    prev_of_lem (w ∷ l) p h z a d k e = prev_of_lem l w (nx w) z (later z w (l ++ x ∷ l₂) a) (λ u. differs z w (l ++ x ∷ l₂) a (sym u)) k.2 e

    next_of_lem : (l : List ℕ) (p h z : ℕ) → Absent z (l ++ x ∷ l₂) → z ≢ none → Linked none nx pv p h (l ++ x ∷ l₂) → nx x ≢ z
    next_of_lem (w ∷ l) p h z a d k e = next_of_lem l w (nx w) z (later z w (l ++ x ∷ l₂) a) d k.2 e
    next_of_lem [] p h z a d k e = go l₂ (later z x l₂ a) k.2
      where
        go : (m : List ℕ) → Absent z m → Linked none nx pv x (nx x) m → ⊥
        go [] b j = d (sym e ∙ j)
        go (y ∷ m) b j = differs z y m b (sym j.0 ∙ e)

    linked_out : (l : List ℕ) (p h : ℕ) → Absent none (l ++ x ∷ l₂) → Absent p (l ++ x ∷ l₂) → OnceN (l ++ x ∷ l₂)
        → Linked none nx pv p h (l ++ x ∷ l₂)
        → Linked none nx' pv' p (new_head l (nx x) h) (l ++ l₂)
    linked_out [] p h an apx o k = go l₂ (later none x l₂ an) (later p x l₂ apx) (once_later x l₂ o) k.2
      where
        go : (m : List ℕ) → Absent none m → Absent p m → OnceN m → Linked none nx pv x (nx x) m → Linked none nx' pv' p (nx x) m
        go [] bn bp b j = j
        go (y ∷ m) bn bp b j =
            let yn : nx x ≢ none = λ u. differs none y m bn (sym j.0 ∙ u) in (
              j.0,
              ap pv' (sym j.0) ∙ pv-n yn ∙ k.1,
              rw (nx-o y (λ u. differs p y m bp (u ∙ k.1)))
                  (linked_agree m y (nx y)
                  (λ z u. nx-o z (λ v. present p z m (later p y m bp) u (v ∙ k.1)))
                  (λ z u. pv-o z (λ v. present y z m (once_head y m b) u (v ∙ j.0)))
                  j.2),
            )
    linked_out (z ∷ l) p h an apx o k =
        let zn : z ≢ none = differs none z (l ++ x ∷ l₂) an in
        let az : Absent z (l ++ x ∷ l₂) = once_head z (l ++ x ∷ l₂) o in (
          k.0,
          pv-o z (λ u. next_of_lem l z (nx z) z az zn k.2 (sym u)) ∙ k.1,
          rw (link zn l az k.2) (linked_out l z (nx z) (later none z (l ++ x ∷ l₂) an) az (once_later z (l ++ x ∷ l₂) o) k.2),
        )
      where
        link : z ≢ none → (l : List ℕ) → Absent z (l ++ x ∷ l₂) → Linked none nx pv z (nx z) (l ++ x ∷ l₂) → nx' z ≡ new_head l (nx x) (nx z)
        link zn [] az j = ap nx' (sym j.1) ∙ nx-p (λ u. zn (sym j.1 ∙ u))
        link zn (w ∷ l) az j = nx-o z (λ u. prev_of_lem l w (nx w) z (later z w (l ++ x ∷ l₂) az) (λ v. differs z w (l ++ x ∷ l₂) az (sym v)) j.2 (sym u))

    pub linked_unlink : (l : List ℕ) (h h' : ℕ) → Absent none (l ++ x ∷ l₂) → OnceN (l ++ x ∷ l₂)
        → (pv x ≡ none → h' ≡ nx x)
        → (pv x ≢ none → h' ≡ h)
        → Linked none nx pv none h (l ++ x ∷ l₂)
        → Linked none nx' pv' none h' (l ++ l₂)
    linked_unlink l h h' an o h-first h-other k = rw (head_is l an k) (linked_out l none h an an o k)
      where
        head_is : (l : List ℕ) → Absent none (l ++ x ∷ l₂) → Linked none nx pv none h (l ++ x ∷ l₂) → h' ≡ new_head l (nx x) h
        head_is [] an k = h-first k.1
        head_is (w ∷ l) an k = h-other (prev_of_lem l w (nx w) none (later none w (l ++ x ∷ l₂) an) (λ u. differs none w (l ++ x ∷ l₂) an (sym u)) k.2)

-- ---- the neighbours of a slot are in the list, or there is none
module _ (none : ℕ) (nx pv : ℕ → ℕ) where
  pub head_in : (h p : ℕ) (l : List ℕ) → Linked none nx pv p h l → h ≢ none → 1 ≤ count_p (eqb h) l
  head_in h p [] k u = absurd (u k)
  head_in h p (y ∷ l) k u = omega (arith, ap one (eq-eqb h y k.0))

  pub prev_in : (l₁ : List ℕ) (x : ℕ) (l₂ : List ℕ) (p h : ℕ) → Linked none nx pv p h (l₁ ++ x ∷ l₂) → pv x ≢ p → 1 ≤ count_p (eqb (pv x)) (l₁ ++ x ∷ l₂)
  prev_in [] x l₂ p h k u = absurd (u k.1)
  prev_in (w ∷ l) x l₂ p h k u =
      both (true_or_false (eqb (pv x) w)) (λ v. omega (arith, ap one v)) (λ v. omega (arith, prev_in l x l₂ w (nx w) k.2 (eqb-false (pv x) w v)))

  pub next_in : (l₁ : List ℕ) (x : ℕ) (l₂ : List ℕ) (p h : ℕ) → Linked none nx pv p h (l₁ ++ x ∷ l₂) → nx x ≢ none → 1 ≤ count_p (eqb (nx x)) (l₁ ++ x ∷ l₂)
  next_in [] x l₂ p h k u = omega (arith, head_in (nx x) x l₂ k.2 u)
  next_in (w ∷ l) x l₂ p h k u = omega (arith, next_in l x l₂ w (nx w) k.2 u)
