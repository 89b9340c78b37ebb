-- The counts of a ring's edges.
use Rattle.std.specs.Prelude.{ℕ, length}
use Rattle.index_edge.specs.Edge.{Edge}
use Rattle.intersection_set.specs.Pool.{tangle_at}
use Rattle.job.specs.declared.tangled.Tangled.{Tangled}

-- how many records name an edge: what stands at its place
abbrev pub tally : Tangled → Edge → ℕ
tally t e = tangle_at (length t.ring.now) e t.tangles.now
