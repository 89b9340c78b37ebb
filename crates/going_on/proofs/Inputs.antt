-- What is read of an input is what the definition reads.
use Rattle.std.specs.Prelude.{◌≡◌, true, false, List, ℕ, ◌+◌, ◌-◌, ◌*◌, length, take, drop}
use Rattle.std.proofs.Common.{◌∙◌, ap}
use Rattle.std.proofs.lemmas.List.{take_rest}
use Rattle.job.specs.Buffers.{over}
use Rattle.job.specs.Text.{refused_line}
use Rattle.job.proofs.Written.{table}
use Rattle.tour.proofs.Jobs.{take_table}
use Rattle.going_on.specs.Printed.{pick_count, has_picks, pick_in, text_on, printed_on}

module _ (input : List ℕ) where
  pub some_printed : (ps : List ℕ) → has_picks input ≡ true → {count : ℕ} → count ≡ pick_count input → {qs : List ℕ} → qs ≡ over ps (pick_in input) count
      → text_on (take (length input - (4 + 4 * count)) (drop (4 + 4 * count) input)) (take count qs) ≡ printed_on input
  unfolding printed_on
  some_printed ps enough {count} is {qs} filled =
      let read : take count qs ≡ table (pick_in input) (pick_count input) = ap (take count) filled ∙ take_table ps (pick_in input) count ∙ ap (table (pick_in input)) is in
      rw enough (ap (λ img. text_on img (take count qs)) (take_rest input (4 + 4 * count)) ∙ (λ i. text_on (drop (4 + 4 * is i) input) (read i)))

  pub none_printed : has_picks input ≡ false → {k : ℕ} → k ≡ 20 → refused_line k ≡ printed_on input
  unfolding printed_on
  none_printed short e = rw short (ap refused_line e)
