-- The first k places hold the ages of these records.
use Rattle.std.proofs.Common.{◌≡◌, ℕ, ◌<◌, length, get_or}
use Rattle.resume.specs.AgesAside.{age_at}
use Rattle.audit.proofs.ages.sort_ages.Given as goal

abbrev pub invariant-loop-k : goal.invariant-loop-k
invariant-loop-k g l = (length l.part ≡ length g.d) × ((j : ℕ) → j < l.k → get_or l.part j 0 ≡ age_at g.d j)
