-- Saved right after it was taken up, with no picks and records left, a file comes back byte for byte.
use Rattle.std.specs.Prelude.{◌≡◌, refl, false, List, [], ◌∷◌, ◌++◌, ℕ, zero, suc, ◌≤◌, eqb, length, take, ℤ, pos}
use Rattle.std.proofs.Common.{sym, ◌∙◌, ap, arith}
use Rattle.std.proofs.lemmas.List.{get_or-take}
use borrow.Author.Tests.{ne_eqb}
use Rattle.geometry.specs.Plane.{Point}
use Rattle.job.specs.Words.{bits_of, bytes_of}
use Rattle.job.specs.Encoded.{pairs}
use Rattle.resume.specs.Image.{Image, take_up}
use Rattle.resume.specs.Fit.{Fit}
use Rattle.resume.proofs.BackAgain.{saved_taken_up}
use Rattle.resume.proofs.Renumbering.{slotted_length}
use Rattle.image.specs.Halves.{halves_of}
use Rattle.image.specs.Bytes.{image_header, lines_bytes, frame_bytes, image_bytes}
use Rattle.image.specs.Reading.{image_fault, point_count, xs_in, ys_in, read_image}
use Rattle.image.proofs.WriteBack.{Gapless, write_back}
use Rattle.job.proofs.TwosComplement.{Bytes}
use Rattle.take_up.specs.TakenUp.{board_in}
use Rattle.handover.specs.Handed.{left_by}

-- what a run leaves that makes no move is what it was taken up from
left_again : (n : ℕ) (pt : ℕ → Point) (m : Image) → Fit n pt m → (length m.lines ≡ 0 → ⊥) → left_by n pt (take_up m) [] ≡ m
left_again n pt m fit some =
    let left : eqb (length (take_up m).store.dense) 0 ≡ false = ne_eqb (length (take_up m).store.dense) 0 (λ z. some (sym (slotted_length 0 m.lines) ∙ z)) in
    rw left (saved_taken_up n pt m fit)

-- A file of width 12 with no gaps that is fit to be taken up, and that names records.
pub comes_back : (img : List ℕ) → Bytes img → image_fault img ≡ 0 → Gapless img → Fit (point_count img) (board_in img) (read_image img) → (length (read_image img).lines ≡ 0 → ⊥)
    → image_bytes (point_count img) (xs_in img) (ys_in img) (left_by (point_count img) (board_in img) (take_up (read_image img)) []) ≡ img
comes_back img bytes whole plain fit some =
    ap (image_bytes (point_count img) (xs_in img) (ys_in img)) (left_again (point_count img) (board_in img) (read_image img) fit some) ∙ write_back img bytes whole plain

-- and of points that stand in longer lists no more is written than the first n
pairs_below : (n k : ℕ) (x y : List ℤ) → k ≤ n → pairs (take n x) (take n y) k ≡ pairs x y k
unfolding pairs
pairs_below n zero x y h = refl
pairs_below n (suc k) x y h =
    λ i. pairs_below n k x y (omega (arith, h)) i ++ (bits_of (get_or-take n x k (pos 0) (omega (arith, h)) i) ∷ bits_of (get_or-take n y k (pos 0) (omega (arith, h)) i) ∷ [])

pub bytes_below : (n : ℕ) (x y : List ℤ) (m : Image) → image_bytes n (take n x) (take n y) m ≡ image_bytes n x y m
unfolding image_bytes frame_bytes
bytes_below n x y m = ap (λ (w : List ℕ). (bytes_of (image_header n (length m.lines)) ++ (bytes_of w ++ halves_of m.ring)) ++ lines_bytes m.lines) (pairs_below n n x y (omega arith))
