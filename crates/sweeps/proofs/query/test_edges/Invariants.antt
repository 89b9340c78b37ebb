-- The edges at the positions before this one were tested.
use Rattle.std.specs.Prelude.{take}
use Rattle.geometry.specs.Spots.{spots}
use Rattle.index_edge.specs.Number.{edge_of}
use Rattle.sweeps.specs.Query.{met, other, Kept}
use Rattle.sweeps.proofs.query.test_edges.Given as goal

abbrev pub invariant-loop-at : goal.invariant-loop-at
invariant-loop-at l =
    let e = edge_of l.fn.edge in
    Kept (met (spots l.points) e) (other e) l.n l.ring (take l.at-index l.near) l.initial.found l.found (record { count = l.count; tested = l.tested })
