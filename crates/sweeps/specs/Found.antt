-- What an edge e and another edge f that meets it make: a record of both, or none.
use Rattle.std.specs.Prelude.{◌≡◌, true, false, Option, Some, None}
use Rattle.index_edge.specs.Edge.{Edge}
use Rattle.index_edge.specs.Number.{edge_of}
use Rattle.intersection_set.specs.Pool.{lesser, greater}
use Rattle.intersection_set.specs.declared.intersection_set.IndexIntersection.{IndexIntersection}
use Rattle.sweeps.specs.Sweep.{first_of, second_of, asked}
use Rattle.sweeps.specs.declared.candidate.Against.{Against}

-- k names the two edges, in the order in which they are pushed
pub record Names (k : IndexIntersection) (e f : Edge) : Type 0 where
  pub smaller : edge_of k.min ≡ lesser e f
  pub larger : edge_of k.max ≡ greater e f

abbrev pub Found : Against → Edge → Edge → Option IndexIntersection → Type 0
Found b e f None = asked b e f ≡ false
Found b e f (Some k) = (asked b e f ≡ true) × Names k (first_of b e f) (second_of b e f)
