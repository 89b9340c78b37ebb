-- `is_above` meets its contract: the keys order as the points do.
use mathlib.Core.Path.{◌∙◌, ap, ap₂}
use lib.Signed.{lt_z}
use mir.Syntax.{w64}
use mir.Val.{SFits}
use borrow.Author.Rules.{rules}
use Rattle.geometry.specs.Plane.{lt_point}
use Rattle.geometry.specs.Lent.{spot}
use Rattle.geometry.proofs.Reading.{read_64, read_given}
use Rattle.geometry.proofs.Ordering.{key_lt}
use Rattle.moves.proofs.kink.Kink.is_above.Goals as goal

pub returns : goal.returns
returns c =
    let k = c.args.self in
    let fits : SFits w64 k.key = search rules in
    ap₂ lt_z (read_64 c.order_key.type_inv c.order_key.ensures) (read_given fits k.keyed)
    ∙ key_lt (spot c.point.result.point) (spot k.point.point) c.point.result.near k.point.near
    ∙ ap (λ p. lt_point p (spot k.point.point)) c.point.ensures
