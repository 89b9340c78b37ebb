use Rattle.std.proofs.Common.{length}
use Rattle.checks.proofs.accept.+any_below.Given as goal

-- proposed from what the function passes where it calls itself
abbrev pub decreases-any_below : goal.decreases-any_below
decreases-any_below l = length l.lengths.now
