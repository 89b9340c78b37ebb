-- The marks say what the records so far name.
use Rattle.std.proofs.Common.{◌≤◌, length, take}
use Rattle.audit.specs.Marks.{MarksAll}
use Rattle.audit.proofs.pairs.mark_all.Given as goal

abbrev pub invariant-loop-k : goal.invariant-loop-k
invariant-loop-k g l = (l.k ≤ l.count) × MarksAll (length l.ring) l.ring (take l.k g.d) l.table
