-- No edge before this position meets one behind it.
use Rattle.std.proofs.Common.{◌≡◌, ◌-◌}
use Rattle.geometry.specs.Spots.{spots}
use Rattle.validate.specs.Drawn.{contact, contact_from}
use Rattle.validate.proofs.contact.check_contact.Given as goal

abbrev pub invariant-loop-i : goal.invariant-loop-i
invariant-loop-i l = contact l.points.n (spots l.points) l.ring ≡ contact_from l.points.n (spots l.points) l.ring l.i (l.points.n - l.i)
