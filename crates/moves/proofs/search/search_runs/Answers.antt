-- `search_runs` meets its contract: the points of the second run come after those of the first.
use Rattle.moves.specs.Walk.{ring_of, point_of}
use Rattle.moves.proofs.KinkSearch.{two_runs}
use Rattle.moves.proofs.search.search_runs.Goals as goal

pub returns : goal.returns
returns c = let v = c.args.on in two_runs v.points.n (point_of v) (ring_of v) c.args.a c.args.b c.with_run-of_a.ensures c.with_run.ensures
