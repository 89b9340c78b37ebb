-- Laws of what a writer has written: nothing, and one text behind the other.
use Rattle.std.proofs.Common.{ℕ, List, [], ◌++◌, refl, ◌∙◌}
use Rattle.job.specs.Writing.{Wrote}
use Rattle.job.specs.declared.writer.Writer.{Writer}
use Rattle.job.proofs.Written.{put_then, put_empty}

pub wrote_none : (w : Writer) → Wrote w w []
wrote_none w = record { same = refl; long = refl; text = put_empty w.out.now w.at }

pub wrote_then : {a b c : Writer} {s t : List ℕ} → Wrote a b s → Wrote b c t → Wrote a c (s ++ t)
wrote_then p q = record { same = q.same ∙ p.same; long = q.long ∙ p.long; text = put_then p.text q.text }
