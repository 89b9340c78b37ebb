-- The edge that an `IndexEdge` of the code stands for.
use Rattle.index_edge.specs.Edge.{Edge}
use Rattle.index_edge.specs.declared.IndexEdge.{IndexEdge}

abbrev pub edge_of : IndexEdge → Edge
edge_of e = record { lo = e.min.0; hi = e.max.0 }
