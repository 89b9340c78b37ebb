-- `overlaps` meets its contract: the keys order as the points do.
use mir.Syntax.{w64}
use mir.Val.{SFits}
use borrow.Author.Rules.{rules}
use Rattle.geometry.proofs.Reading.{read_given}
use Rattle.sweeps.proofs.Seeing.{overlap_by}
use Rattle.sweeps.proofs.pair.Pair.overlaps.Goals as goal

pub returns : goal.returns
returns c =
    let s = c.args.self in
    let a = s.a in
    let low : SFits w64 a.low = search rules in
    let high : SFits w64 a.high = search rules in
    let from : SFits w64 s.from.key = search rules in
    let to : SFits w64 s.to.key = search rules in
    overlap_by a.points s.from.id.0 s.to.id.0 s.sight.among (read_given low a.spans.least) (read_given high a.spans.greatest)
    (read_given from s.sight.first.order) (read_given to s.sight.second.order) c.keys_overlap.ensures
