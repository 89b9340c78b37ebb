-- The tree by its halves, and how many boxes it has.
use Rattle.std.specs.Prelude.{◌≡◌, refl, List, [], ◌∷◌, ◌++◌, flat_map, ℕ, zero, suc, ◌+◌, ◌-◌, ◌*◌, ◌/◌, ◌≤◌, ◌<◌, ℤ, length}
use Rattle.std.proofs.Common.{sym, ◌∙◌, ap, ap₂, arith, length-append}
use Rattle.std.proofs.lemmas.Grind.{flat_map-append}
use Rattle.std.proofs.lemmas.List.{append-nil}
use Rattle.geometry.specs.Plane.{Point}
use Rattle.algebra.specs.Cases.{both, le_cases}
use Rattle.box_tree.specs.Boxes.{Bounds, unite}
use Rattle.box_tree.specs.Tree.{box_at, front, halves, tree_to, tree_of, four, buffer, read_box, ring_tree, tree_size}

-- ---- the depth does not matter
to_one : (d : ℕ) (f : ℕ → Bounds) (i k : ℕ) → k ≤ 1 → tree_to (suc d) f i k ≡ f i ∷ []
to_one d f i k h = both (le_cases k 1) (λ g. rw g.1) (λ g. absurd (omega (arith, g.0)))

to_more : (d : ℕ) (f : ℕ → Bounds) (i k : ℕ) → 1 < k → tree_to (suc d) f i k ≡ halves (tree_to d f i (k / 2)) (tree_to d f (i + k / 2) (k - k / 2))
to_more d f i k h = both (le_cases k 1) (λ g. absurd (omega (arith, g.0))) (λ g. rw g.1)

same_tree : (d e : ℕ) (f : ℕ → Bounds) (i k : ℕ) → 1 ≤ k → k ≤ d → k ≤ e → tree_to d f i k ≡ tree_to e f i k
same_tree zero e f i k l h g = absurd (omega arith)
same_tree (suc d) zero f i k l h g = absurd (omega arith)
same_tree (suc d) (suc e) f i k l h g =
    both (le_cases k 1)
    (λ z. to_one d f i k z.0 ∙ sym (to_one e f i k z.0))
    (λ z. to_more d f i k z.0
    ∙ ap₂ halves (same_tree d e f i (k / 2) (omega (arith, z.0)) (omega arith) (omega arith))
    (same_tree d e f (i + k / 2) (k - k / 2) (omega (arith, z.0)) (omega (arith, z.0)) (omega (arith, z.0)))
    ∙ sym (to_more e f i k z.0))

-- A tree of one position is its box.
pub tree_one : (f : ℕ → Bounds) (i : ℕ) → tree_of f i 1 ≡ f i ∷ []
unfolding tree_of
tree_one f i = refl

-- A tree of more is the union of its two halves, the first having the rounded-down share.
pub tree_more : (f : ℕ → Bounds) (i k : ℕ) → 1 < k → tree_of f i k ≡ halves (tree_of f i (k / 2)) (tree_of f (i + k / 2) (k - k / 2))
unfolding tree_of
tree_more f i zero h = absurd (omega arith)
tree_more f i (suc d) h =
    let k = suc d in
    to_more d f i k h
    ∙ ap₂ halves (same_tree d (k / 2) f i (k / 2) (omega arith) (omega arith) (omega arith))
    (same_tree d (k - k / 2) f (i + k / 2) (k - k / 2) (omega arith) (omega arith) (omega arith))

-- induction over the halves
pub by_halves : (Q : ℕ → ℕ → Type 0) → ((i : ℕ) → Q i 1) → ((i k : ℕ) → 1 < k → Q i (k / 2) → Q (i + k / 2) (k - k / 2) → Q i k)
    → (i k : ℕ) → 1 ≤ k → Q i k
by_halves Q one more i k h = go k i k h (omega arith)
  where
    go : (d i k : ℕ) → 1 ≤ k → k ≤ d → Q i k
    go zero i k h g = absurd (omega arith)
    go (suc d) i k h g =
        both (le_cases k 1)
        (λ z. let e : k ≡ 1 = omega (arith, z.0) in rw e (one i))
        (λ z. more i k z.0 (go d i (k / 2) (omega (arith, z.0)) (omega arith)) (go d (i + k / 2) (k - k / 2) (omega (arith, z.0)) (omega (arith, z.0))))

-- ---- the buffer
-- the box of all of them: the one in front
abbrev pub top : (ℕ → Bounds) → ℕ → ℕ → Bounds
top f i k = front (tree_of f i k)

pub top_one : (f : ℕ → Bounds) (i : ℕ) → top f i 1 ≡ f i
top_one f i = ap front (tree_one f i)

pub top_more : (f : ℕ → Bounds) (i k : ℕ) → 1 < k → top f i k ≡ unite (top f i (k / 2)) (top f (i + k / 2) (k - k / 2))
top_more f i k h = ap front (tree_more f i k h)

-- A leaf is four numbers.
pub buffer_one : (f : ℕ → Bounds) (i : ℕ) → buffer f i 1 ≡ four (f i)
unfolding buffer
buffer_one f i = ap (flat_map four) (tree_one f i)

-- A node stands before its whole first half, and that before the second.
pub buffer_more : (f : ℕ → Bounds) (i k : ℕ) → 1 < k
    → buffer f i k ≡ four (unite (top f i (k / 2)) (top f (i + k / 2) (k - k / 2))) ++ (buffer f i (k / 2) ++ buffer f (i + k / 2) (k - k / 2))
unfolding buffer
buffer_more f i k h =
    let b = unite (top f i (k / 2)) (top f (i + k / 2) (k - k / 2)) in
    ap (flat_map four) (tree_more f i k h) ∙ ap (λ (l : List ℤ). four b ++ l) (flat_map-append four (tree_of f i (k / 2)) (tree_of f (i + k / 2) (k - k / 2)))

-- four numbers for each of 2k-1 boxes
pub buffer_size : (f : ℕ → Bounds) (i k : ℕ) → 1 ≤ k → length (buffer f i k) + 4 ≡ 8 * k
buffer_size f =
    by_halves (λ i k. length (buffer f i k) + 4 ≡ 8 * k)
    (λ i. ap (λ (l : List ℤ). length l + 4) (buffer_one f i))
    (λ i k h a b. let s = buffer f i (k / 2) in
    let t = buffer f (i + k / 2) (k - k / 2) in
    let e : suc (suc (suc (suc (length (s ++ t))))) + 4 ≡ 8 * k = omega (arith, length-append s t, a, b) in
    ap (λ (l : List ℤ). length l + 4) (buffer_more f i k h) ∙ e)

-- so a ring's tree takes as many numbers as check 2 asks for
pub tree_length : (n : ℕ) (pt : ℕ → Point) (r : List ℕ) → 1 ≤ n → length (ring_tree n pt r) ≡ tree_size n
unfolding ring_tree
tree_length n pt r h = omega (arith, buffer_size (box_at n pt r) 0 n h)

-- what stands in front of it is the box of all
pub top_read : (f : ℕ → Bounds) (i k : ℕ) → 1 ≤ k → (l : List ℤ) → read_box (buffer f i k ++ l) ≡ top f i k
top_read f i k h l =
    both (le_cases k 1)
    (λ g. let e : k ≡ 1 = omega (arith, g.0) in
    rw e (ap (λ (m : List ℤ). read_box (m ++ l)) (buffer_one f i) ∙ sym (top_one f i)))
    (λ g. ap (λ (m : List ℤ). read_box (m ++ l)) (buffer_more f i k g.0) ∙ sym (top_more f i k g.0))

pub top_is : (f : ℕ → Bounds) (i k : ℕ) → 1 ≤ k → {t : List ℤ} → t ≡ buffer f i k → read_box t ≡ top f i k
top_is f i k h e = ap read_box (e ∙ sym (append-nil (buffer f i k))) ∙ top_read f i k h []
