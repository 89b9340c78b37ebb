-- `search_run` meets its contract: beside a run with no edges there are only its own.
use Rattle.moves.specs.Walk.{ring_of, point_of}
use Rattle.moves.proofs.KinkSearch.{one_run}
use Rattle.moves.proofs.search.search_run.Goals as goal

pub returns : goal.returns
returns c = let v = c.args.on in one_run v.points.n (point_of v) (ring_of v) c.args.run c.with_run.ensures
