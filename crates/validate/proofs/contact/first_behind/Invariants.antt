-- No edge behind the position and before this one meets the edge there.
use Rattle.std.proofs.Common.{◌<◌}
use Rattle.geometry.specs.Spots.{spots}
use Rattle.validate.proofs.Behind.{Tested}
use Rattle.validate.proofs.contact.first_behind.Given as goal

abbrev pub invariant-loop-j : goal.invariant-loop-j
invariant-loop-j l = (l.fn.id.0 < l.j) × Tested l.n (spots l.points) l.ring l.fn.id.0 l.j l.from
