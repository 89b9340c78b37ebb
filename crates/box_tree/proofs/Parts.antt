-- The parts of a node's buffer that are lent for its two halves hold their trees, and once both came back so, with the union of the boxes in front of them
-- written before both, the buffer is the tree of all.
use Rattle.std.proofs.Common.{◌≡◌, List, [], ◌++◌, ℕ, ◌+◌, ◌-◌, ◌*◌, ◌/◌, ◌<◌, ℤ, length, take, drop, ◌∙◌, ap, append_assoc, arith, length-append}
use Rattle.std.proofs.lemmas.List.{append-nil, drop_all, drop-drop, length-take-le, take_at, drop_at}
use Rattle.std.proofs.lemmas.Slice.{take-put_mid, between_to_end}
use borrow.Rule.Slice.PartMut.{put_mid}
use Rattle.box_tree.specs.Boxes.{Bounds, unite}
use Rattle.box_tree.specs.Tree.{four, buffer, read_box}
use Rattle.box_tree.specs.Within.{Part}
use Rattle.box_tree.proofs.Growing.{top, buffer_more, buffer_size, top_read, top_is}

-- where the second half begins
abbrev pub start : ℕ → ℕ
start k = 8 * (k / 2)

-- what is lent for the first half, and for the second
abbrev pub first_part : ℕ → List ℤ → List ℤ
first_part k t = take (start k - 4) (drop 4 t)

abbrev pub second_part : ℕ → List ℤ → List ℤ
second_part k t = take (length t - start k) (drop (start k) t)

-- the second goes to the end
pub second_to_end : (k : ℕ) (t : List ℤ) → second_part k t ≡ drop (start k) t
second_to_end k t = between_to_end t (start k) (length t) (omega arith)

-- ---- the halves of a buffer
module _ (f : ℕ → Bounds) (i k : ℕ) (h : 1 < k) where
  pub first_size : length (buffer f i (k / 2)) ≡ start k - 4
  first_size = omega (arith, buffer_size f i (k / 2) (omega arith))

  module _ {t : List ℤ} (e : t ≡ buffer f i k) where
    pub first_half : first_part k t ≡ buffer f i (k / 2)
    first_half = ap (first_part k) (e ∙ buffer_more f i k h) ∙ take_at (buffer f i (k / 2)) (buffer f (i + k / 2) (k - k / 2)) (start k - 4) first_size

    pub second_half : drop (start k) t ≡ buffer f (i + k / 2) (k - k / 2)
    second_half =
        let b = four (unite (top f i (k / 2)) (top f (i + k / 2) (k - k / 2))) in
        ap (drop (start k)) (e ∙ buffer_more f i k h)
        ∙ drop_at (b ++ buffer f i (k / 2)) (buffer f (i + k / 2) (k - k / 2)) (start k) (omega (arith, first_size))

-- ---- a buffer whose halves came back: the first, and then both
abbrev pub with_first : ℕ → List ℤ → List ℤ → List ℤ
with_first k t a = put_mid 4 (start k - 4) t a

abbrev pub with_both : ℕ → List ℤ → List ℤ → List ℤ → List ℤ
with_both k t a b = let l = with_first k t a in put_mid (start k) (length l - start k) l b

-- a part put back at the end
put_to_end : (s : ℕ) (l b : List ℤ) → put_mid s (length l - s) l b ≡ take s l ++ b
put_to_end s l b =
    let e : drop (length l - s) (drop s l) ≡ [] = drop-drop (length l - s) s l ∙ drop_all (s + (length l - s)) l (omega arith) in
    ap (λ r. take s l ++ (b ++ r)) e ∙ ap (λ r. take s l ++ r) (append-nil b)

-- Then the box was written, and it is the tree of all.
pub node_made : {n i k : ℕ} {r : List ℕ} {t : List ℤ} → Part n r i k t → 1 < k → (f : ℕ → Bounds) (a b u : List ℤ)
    → a ≡ buffer f i (k / 2) → b ≡ buffer f (i + k / 2) (k - k / 2)
    → (let l = with_both k t a b in u ≡ four (unite (read_box (drop 4 l)) (read_box (drop (start k) l))) ++ drop 4 l)
    → u ≡ buffer f i k
node_made {i = i} {k} {t = t} z h f a b u ea eb e =
    let s = start k in
    let l4 : length (take 4 t) ≡ 4 = length-take-le 4 t (omega (arith, z.size)) in
    let la : length a ≡ s - 4 = ap length ea ∙ first_size f i k h in
    let ls : length (take 4 t ++ a) ≡ s = omega (arith, length-append (take 4 t) a) in
    let first = take-put_mid 4 (s - 4) t a s (omega arith) (omega (arith, z.size)) in
    let all = put_to_end s (with_first k t a) b ∙ ap (λ l. l ++ b) first in
    let behind = ap (drop 4) (all ∙ append_assoc (take 4 t) a b) ∙ drop_at (take 4 t) (a ++ b) 4 l4 in
    let second = ap (drop s) all ∙ drop_at (take 4 t ++ a) b s ls in
    let ta = top_read f i (k / 2) (omega arith) b in
    let tb = top_is f (i + k / 2) (k - k / 2) (omega arith) eb in
    let w = buffer_more f i k h in
    cc
