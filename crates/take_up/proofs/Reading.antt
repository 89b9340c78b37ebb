-- The records, the points and the ring that an image says, as they are read into arrays.
use Rattle.std.specs.Prelude.{◌≡◌, refl, List, [], ◌∷◌, ◌++◌, map, replicate, ℕ, zero, suc, ◌+◌, ◌<◌, length, get_or, drop, ℤ, pos}
use Rattle.std.proofs.Common.{◌∙◌, ap, arith}
use contract.BorrowLft.{◌⊑◌, ⊑_static, ⊑_meet}
use Rattle.std.proofs.lemmas.List.{length-map, get_or-drop}
use Rattle.algebra.specs.Ranges.{up_from, up_from_length, table_at}
use Rattle.geometry.specs.Lent.{coord, points}
use Rattle.job.specs.Buffers.{over}
use Rattle.intersection_set.specs.Store.{no_rec}
use Rattle.resume.specs.Image.{slotted}
use Rattle.resume.proofs.Renumbering.{slotted_length}
use Rattle.refill.specs.Filling.{line_at, no_line}
use Rattle.refill.proofs.Filling.{slotted_is}
use Rattle.image.specs.Reading.{point_count, record_count, line_in, lines_in, x_in, y_in}
use Rattle.take_up.specs.TakenUp.{board_in}

-- ---- records
module _ (img : List ℕ) where
  pub lines_length : length (lines_in img) ≡ record_count img
  lines_length = length-map (up_from 0 (record_count img)) (line_in img) ∙ up_from_length 0 (record_count img)

  pub records_length : length (slotted 0 (lines_in img)) ≡ record_count img
  records_length = slotted_length 0 (lines_in img) ∙ lines_length

  pub line_is : (i : ℕ) → i < record_count img → line_at (lines_in img) i ≡ line_in img i
  line_is i h = table_at (line_in img) no_line 0 (record_count img) i h ∙ ap (line_in img) (let z : 0 + i ≡ i = omega arith in z)

  pub record_is : (i : ℕ) → i < record_count img → get_or (slotted 0 (lines_in img)) i no_rec ≡ record { e0 = (line_in img i).e0; e1 = (line_in img i).e1; age = (line_in img i).age; slot = i }
  record_is i h =
      let z : i < length (lines_in img) = omega (arith, h, lines_length) in
      slotted_is (lines_in img) i z ∙ (let e = line_is i h in λ k. record { e0 = (e k).e0; e1 = (e k).e1; age = (e k).age; slot = i })

-- ---- points and ring
-- past the written part of an array of zeros stands 0, as past the end of the list
tail_zero : {A : Type 0} (z : A) (a b : List A) → ((k : ℕ) → get_or b k z ≡ z) → (i : ℕ) → get_or (a ++ b) i z ≡ get_or a i z
tail_zero z [] b h i = h i
tail_zero z (x ∷ a) b h zero = refl
tail_zero z (x ∷ a) b h (suc i) = tail_zero z a b h i

zeros : {A : Type 0} (z : A) (m k : ℕ) → get_or (replicate m z) k z ≡ z
zeros z zero k = refl
zeros z (suc m) zero = refl
zeros z (suc m) (suc k) = zeros z m k

dropped : {A : Type 0} (z : A) (n m k : ℕ) → get_or (drop n (replicate m z)) k z ≡ z
dropped z n m k = get_or-drop n (replicate m z) k z ∙ zeros z m (n + k)

coord_is : (f : ℕ → ℤ) (n i : ℕ) → coord (over (replicate 256 (pos 0)) f n) i ≡ coord (map f (up_from 0 n)) i
unfolding over
coord_is f n i = tail_zero (pos 0) (map f (up_from 0 n)) (drop n (replicate 256 (pos 0))) (dropped (pos 0) n 256) i

pub board_is : (img : List ℕ) {px py : List ℤ} → px ≡ over (replicate 256 (pos 0)) (x_in img) (point_count img) → py ≡ over (replicate 256 (pos 0)) (y_in img) (point_count img) → points px py ≡ board_in img
board_is img ex ey = λ k i. record { x = (ap (λ l. coord l i) ex ∙ coord_is (x_in img) (point_count img) i) k; y = (ap (λ l. coord l i) ey ∙ coord_is (y_in img) (point_count img) i) k }

-- ---- a closure that reads an image lives as long as it
pub outlived : {j k l : List ℕ} → j ⊑ k → j ⊑ l → j ⊑ ((k ++ (l ++ [] ++ [])) ++ [] ++ ((k ++ (l ++ [] ++ [])) ++ []))
outlived a b =
    let x = ⊑_meet _ _ _ (⊑_meet _ _ _ a (⊑_meet _ _ _ (⊑_meet _ _ _ b (⊑_static _)) (⊑_static _))) (⊑_static _) in
    ⊑_meet _ _ _ x x
