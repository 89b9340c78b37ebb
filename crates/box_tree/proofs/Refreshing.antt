-- A tree some of whose positions have new boxes: a part that has none is right as it is, and each half is such a tree again.
use Rattle.std.proofs.Common.{◌≡◌, List, [], ◌∷◌, flat_map, ℕ, ◌+◌, ◌-◌, ◌/◌, ◌≤◌, ◌<◌, ℤ, length, sym, ◌∙◌, ap, ap₂, arith}
use Rattle.std.proofs.lemmas.Slice.{drop-put_mid}
use Rattle.polygon.specs.Ring.{IsRing, dist}
use Rattle.box_tree.specs.Boxes.{Bounds}
use Rattle.box_tree.specs.Tree.{halves, tree_of, four, buffer}
use Rattle.box_tree.specs.Within.{Part, HeldBut}
use Rattle.box_tree.proofs.Growing.{tree_one, tree_more, by_halves, buffer_size}
use Rattle.box_tree.proofs.Parts.{start, first_part, second_part, second_to_end, first_size, first_half, second_half, with_first}

-- A buffer depends only on the boxes of its positions.
tree_same : (f g : ℕ → Bounds) (i k : ℕ) → 1 ≤ k → ((j : ℕ) → i ≤ j → j < i + k → f j ≡ g j) → buffer f i k ≡ buffer g i k
unfolding buffer
tree_same f g i k l same =
    ap (flat_map four)
    (by_halves (λ i k. ((j : ℕ) → i ≤ j → j < i + k → f j ≡ g j) → tree_of f i k ≡ tree_of g i k)
    (λ i h. tree_one f i ∙ ap (λ b. b ∷ []) (h i (omega arith) (omega arith)) ∙ sym (tree_one g i))
    (λ i k m p q h.
    tree_more f i k m
    ∙ ap₂ halves (p (λ j a b. h j a (omega (arith, b)))) (q (λ j a b. h j (omega (arith, a)) (omega (arith, b))))
    ∙ sym (tree_more g i k m))
    i k l same)

module _ {n p q i k : ℕ} {f : ℕ → Bounds} {t : List ℤ} (z : HeldBut n p q f i k t) where
  -- A part whose positions are all apart from the stretch is right as it is.
  pub left_alone : {r : List ℕ} → Part n r i k t → ((j : ℕ) → i ≤ j → j < i + k → dist n p q < dist n p j) → t ≡ buffer f i k
  left_alone s apart = let (g, e, same) = z.held in e ∙ tree_same g f i k s.some (λ j a b. same j (omega (arith, s.within)) (apart j a b))

  pub first_held : 1 < k → HeldBut n p q f i (k / 2) (first_part k t)
  first_held h = let (g, e, same) = z.held in record { first = z.first; last = z.last; held = (g, first_half g i k h e, same) }

  -- the second, once the first came back
  pub second_held : 1 < k → (a : List ℤ) → a ≡ buffer f i (k / 2)
      → HeldBut n p q f (i + k / 2) (k - k / 2) (second_part k (with_first k t a))
  second_held h a ea =
      let (g, e, same) = z.held in
      let s = start k in
      let lt : 4 ≤ length t = omega (arith, ap length e, buffer_size g i k (omega arith)) in
      let kept = drop-put_mid 4 (s - 4) t a s (omega arith) lt (ap length ea ∙ first_size f i k h) in
      record { first = z.first; last = z.last; held = (g, second_to_end k (with_first k t a) ∙ kept ∙ second_half g i k h e, same) }

-- the whole of a ring
pub whole_part : {n p q : ℕ} {r : List ℕ} {f : ℕ → Bounds} {t : List ℤ} → IsRing n r → HeldBut n p q f 0 n t → Part n r 0 n t
whole_part {n} ring z =
    let (g, e, same) = z.held in
    let l : 1 ≤ n = omega (arith, z.first) in
    record { ring = ring; some = l; within = omega arith; size = ap (λ l. length l + 4) e ∙ buffer_size g 0 n l }
