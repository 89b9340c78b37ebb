-- `is_met` meets its contract: what has both ends on one side is not met.
use Rattle.std.proofs.Common.{sym, ◌∙◌, ap, rules}
use mathlib.Core.Path.{ap₂}
use mathlib.Core.Bool.{not}
use mir.Syntax.{w64}
use mir.Val.{SFits}
use Rattle.geometry.specs.Segment.{same_side}
use Rattle.geometry.proofs.Reading.{read_given}
use Rattle.validate.proofs.OneSide.{not_met}
use Rattle.validate.proofs.contact.is_met.Goals as goal

pub returns-else-not-same_side : goal.returns-else-not-same_side
returns-else-not-same_side c =
    let s = c.args.pair in
    let from : SFits w64 s.from.turn = search rules in
    let to : SFits w64 s.to.turn = search rules in
    let sides = sym (c.same_side.ensures ∙ ap₂ same_side (read_given from s.sight.first.side) (read_given to s.sight.second.side)) ∙ c.if-not-same_side.false in
    ap not c.if-not-same_side.false ∙ not_met s.from.id.0 s.to.id.0 s.sight.among sides
