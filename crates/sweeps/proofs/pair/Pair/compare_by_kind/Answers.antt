-- `compare_by_kind` meets its contract: the edge itself is not met, another is where the kind of their contact is not none.
use mathlib.Core.Path.{sym, ◌∙◌, ap}
use Rattle.std.specs.Option.{is_some}
use Rattle.geometry.specs.Spots.{spots}
use Rattle.index_edge.specs.Number.{edge_of}
use Rattle.sweeps.proofs.Seeing.{some_met, met_is}
use Rattle.sweeps.proofs.pair.Pair.compare_by_kind.Goals as goal

pub returns : goal.returns
returns c =
    let s = c.args.self in
    record {
      other = c.is_other-other.ensures;
      meets =
          met_is s.a.points s.sight.among (sym c.is_other-other.ensures ∙ c.if-not-other.false)
          (c.is_some.ensures ∙ ap is_some c.intersect.ensures ∙ some_met (spots s.a.points) (edge_of s.a.edge) s.from.id.0 s.to.id.0);
    }
