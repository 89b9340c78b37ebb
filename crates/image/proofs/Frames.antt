-- What stands before the records: how long it is.
use Rattle.std.proofs.Common.{◌≡◌, refl, ap, ◌∙◌, List, [], ◌∷◌, ◌++◌, ℕ, zero, suc, ◌+◌, ◌*◌, ◌≤◌, length, take, ℤ, pos, arith, length-append}
use Rattle.std.proofs.Math.Seq.{length-take-le}
use Rattle.std.proofs.lemmas.List.{get_or-take}
use Rattle.job.specs.Words.{bits_of}
use Rattle.job.specs.Encoded.{pairs}
use Rattle.job.proofs.Bytes.{length_bytes}
use Rattle.job.proofs.Encoding.{length_pairs}
use Rattle.image.specs.Bytes.{image_header, frame_bytes}
use Rattle.image.proofs.Halves.{length_halves}

pub length_header : (n k : ℕ) → length (image_header n k) ≡ 7
unfolding image_header
length_header n k = refl

pub length_frame : (n : ℕ) (x y : List ℤ) (ring : List ℕ) (k : ℕ) → length (frame_bytes n x y ring k) ≡ 28 + 8 * n + 2 * length ring
unfolding frame_bytes
length_frame n x y ring k =
    simp length-append
    (omega (arith, length_bytes (image_header n k), length_header n k, length_bytes (pairs x y n), length_pairs x y n, length_halves ring))

same_pairs : (x y : List ℤ) (n k : ℕ) → k ≤ n → pairs (take n x) (take n y) k ≡ pairs x y k
unfolding pairs
same_pairs x y n zero h = refl
same_pairs x y n (suc k) h =
    let a = ap bits_of (get_or-take n x k (pos 0) (omega arith)) in
    let b = ap bits_of (get_or-take n y k (pos 0) (omega arith)) in
    let e = same_pairs x y n k (omega arith) in
    λ i. e i ++ (a i ∷ b i ∷ [])

-- the points of lists that are cut behind the first n
pub pairs_taken : (x y : List ℤ) (n : ℕ) → n ≤ length x → pairs (take n x) (take n y) (length (take n x)) ≡ pairs x y n
pairs_taken x y n h = ap (pairs (take n x) (take n y)) (length-take-le n x h) ∙ same_pairs x y n n (omega arith)
