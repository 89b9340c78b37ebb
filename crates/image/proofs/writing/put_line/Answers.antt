-- The bytes of the word of the edges, and then those of the age.
use Rattle.std.proofs.Common.{subst, List, ℕ, arith}
use Rattle.job.specs.Words.{word_bytes, bytes_of}
use Rattle.job.specs.Writing.{Wrote}
use Rattle.job.proofs.Writing.{wrote_then}
use Rattle.image.proofs.Lines.{le_line}
use Rattle.image.proofs.writing.put_line.Goals as goal

pub returns : goal.returns
unfolding word_bytes bytes_of
returns c =
    let whole = wrote_then (rw c.to_le_bytes.ensures at c.text.ensures) c.words.ensures in
    subst (λ (t : List ℕ). Wrote c.args.w.now c.words.new.self t) (le_line c.args.ends c.args.age (omega (arith, c.ranges.ends.fits))) whole
