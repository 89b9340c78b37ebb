-- The points of a loop, by number.
use Rattle.std.specs.Prelude.{ℕ}
use Rattle.geometry.specs.Plane.{Point}
use Rattle.geometry.specs.Lent.{points}
use Rattle.job.specs.declared.feed.Loop.{Loop}

-- point number i
abbrev pub spots : Loop → ℕ → Point
spots l = points l.x.now l.y.now
