-- The two or three edges that a move removes, or inserts.
use Rattle.std.specs.Prelude.{List, map}
use Rattle.index_edge.specs.Edge.{Edge}
use Rattle.index_edge.specs.Number.{edge_of}
use Rattle.untangle.specs.declared.change.Few.{Few}
use Rattle.untangle.specs.declared.change.Few.TheVariants.{Two, Three}

abbrev pub few_of : Few → List Edge
few_of (Two l) = map edge_of l
few_of (Three l) = map edge_of l
