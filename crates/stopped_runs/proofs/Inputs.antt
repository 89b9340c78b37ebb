-- What stands in an input is read of it: the picks, and the image behind them.
use Rattle.std.specs.Prelude.{◌≡◌, refl, true, List, ◌∷◌, ℕ, suc, ◌+◌, ◌*◌, ◌<◌, cond, length, get_or, drop}
use Rattle.std.proofs.Common.{◌∙◌, ap, arith, length-append}
use Rattle.std.proofs.Math.Seq.{drop-append_seam}
use borrow.Author.Tests.{le-leb}
use Rattle.job.specs.Words.{word, bytes_of}
use Rattle.job.specs.Text.{refused_line}
use Rattle.job.proofs.Bytes.{length_bytes, word_bytes_lem}
use Rattle.job.proofs.Written.{table, table_is}
use Rattle.image.proofs.Behind.{word_front}
use Rattle.going_on.specs.Printed.{pick_count, has_picks, pick_in, picks_in, image_in, text_on, printed_on}
use Rattle.stopped_runs.specs.Onwards.{input_of}

module _ (ds img : List ℕ) where
  abbrev words : List ℕ
  words = length ds ∷ ds

  abbrev input : List ℕ
  input = input_of ds img

  long : length (bytes_of words) ≡ 4 + 4 * length ds
  long = omega (arith, length_bytes words)

  word_is : (i : ℕ) → i < length words → word input (4 * i) ≡ get_or words i 0
  word_is i h = word_front (bytes_of words) img (4 * i) (omega (arith, h, long)) ∙ word_bytes_lem words i h

  count_is : pick_count input ≡ length ds
  count_is = word_is 0 (omega arith)

  enough : has_picks input ≡ true
  enough = le-leb (4 + 4 * pick_count input) (length input) (omega (arith, count_is, long, length-append (bytes_of words) img))

  picks_are : picks_in input ≡ ds
  picks_are =
      ap (table (pick_in input)) count_is
      ∙ table_is (pick_in input) ds 0 (length ds) refl (λ i h. ap (word input) (let z : 4 + 4 * i ≡ 4 * suc i = omega arith in z) ∙ word_is (suc i) (omega (arith, h)))

  image_is : image_in input ≡ img
  image_is = ap (λ k. drop k input) (let z : 4 + 4 * pick_count input ≡ length (bytes_of words) = omega (arith, count_is, long) in z) ∙ drop-append_seam (bytes_of words) img

  pub input_printed : printed_on input ≡ text_on img ds
  unfolding printed_on
  input_printed = ap (λ b. cond b (text_on (image_in input) (picks_in input)) (refused_line 20)) enough ∙ (λ i. text_on (image_is i) (picks_are i))
