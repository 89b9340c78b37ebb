-- A coordinate is rounded as the word that means it; and the arrays at whose start the steps and the ring stand.
use Rattle.std.proofs.Common.{◌≡◌, refl, sym, ap, ◌∙◌, List, ◌++◌, map, ℕ, length, take, drop, ℤ, pos, w32, of_z, to_z, arith}
use mir.Val.{SFits}
use Rattle.std.proofs.lemmas.List.{take_at, get_or-map}
use Rattle.algebra.specs.Ranges.{up_from, up_from_length}
use Rattle.polygon.proofs.Index.{list_at}
use Rattle.geometry.specs.Lent.{coord, points}
use Rattle.job.specs.Buffers.{over}
use Rattle.job.specs.Steps.{steps}
use Rattle.job.specs.Words.{signed}
use Rattle.job.proofs.TwosComplement.{signed_bits, bits_read}
use Rattle.job.proofs.Written.{table, table_is, length_table}
use lib.ListN.{length-map}
use Rattle.validate.specs.Drawn.{validated}
use Rattle.drawing.specs.Printed.{told, printed}

pub steps_by : {b : ℕ} {r v : ℤ} → b ≡ of_z w32 (to_z w32 (of_z w32 v)) → SFits w32 v → r ≡ steps (signed b) → r ≡ steps v
steps_by {b} {r} {v} e h k = k ∙ ap (λ w. steps (signed w)) (bits_read e h refl) ∙ ap steps (signed_bits v h.sfits)

-- a table over the first entries is what the list's entries become
pub over_map : (f : ℤ → ℤ) (l m : List ℤ) → over m (λ i. f (coord l i)) (length l) ≡ map f l ++ drop (length l) m
unfolding over
over_map f l m = ap (λ (t : List ℤ). t ++ drop (length l) m) (table_is (λ i. f (coord l i)) (map f l) (pos 0) (length l) (length-map l f) (λ i h. sym (get_or-map f l i (pos 0) (pos 0) h)))

pub rounded_first : (f : ℤ → ℤ) (l m : List ℤ) {n : ℕ} → n ≡ length l → take n (map f l ++ drop (length l) m) ≡ map f l
rounded_first f l m e = take_at (map f l) (drop (length l) m) _ (length-map l f ∙ sym e)

pub counted_first : (n : ℕ) (m : List ℕ) → take n (over m (λ i. i) n) ≡ up_from 0 n
unfolding over
counted_first n m = take_at (table (λ i. i) n) (drop n m) n (length_table (λ i. i) n) ∙ table_is (λ i. i) (up_from 0 n) 0 n (up_from_length 0 n) (λ i h. omega (arith, list_at 0 n i h))

-- what is told of the arrays is told of the pads
pub told_printed : (x y : List ℤ) {xs ys : List ℤ} {r : List ℕ} → xs ≡ map steps x → ys ≡ map steps y → r ≡ up_from 0 (length x)
    → told (length r) (points xs ys) r (validated (length r) xs ys r) ≡ printed x y
unfolding printed
told_printed x y ex ey er =
    let n = ap length er ∙ up_from_length 0 (length x) in
    (λ t. told (n t) (points (ex t) (ey t)) (er t) (validated (n t) (ex t) (ey t) (er t)))
