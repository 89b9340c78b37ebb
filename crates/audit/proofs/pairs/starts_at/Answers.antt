-- `starts_at` meets its contract.
use Rattle.std.proofs.Common.{sym, ◌∙◌, refl}
use Rattle.algebra.specs.Cases.{both, true_or_false}
use Rattle.polygon.proofs.Index.{index_lt}
use Rattle.audit.proofs.Marking.{starts_some, starts_none}
use Rattle.audit.proofs.pairs.starts_at.Goals as goal

pub edge_at-here-requires : goal.edge_at-here-requires
edge_at-here-requires c = (c.requires.0.ring, index_lt c.requires.0 c.args.point.0 c.if-size-point.false refl)

pub returns : goal.returns
returns c =
    let k = c.requires.0 in
    let v = c.args.point.0 in
    both (true_or_false c.eq.result)
    (λ t. rw (c.then_some.ensures, t) (starts_some k v c.if-size-point.false c.edge_at-here.ensures (sym c.eq.ensures ∙ t)))
    (λ t. rw (c.then_some.ensures, t) (starts_none k v c.edge_at-here.ensures (sym c.eq.ensures ∙ t)))
