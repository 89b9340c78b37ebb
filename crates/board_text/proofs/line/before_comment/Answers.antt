use Rattle.std.proofs.Common.{rules, tests, ap, ◌∙◌}
use Rattle.std.proofs.lemmas.Iterator.Splits.{YieldsList-from_slice_split}
use Rattle.board_text.specs.Lines.{is_hash}
use Rattle.board_text.proofs.Taken.{taken_part}
use Rattle.board_text.proofs.line.before_comment.Goals as goal

pub returns : goal.returns
returns c =
    ap (λ x. x.now) c.unwrap_or.ensures
    ∙ taken_part c.args.line c.next.result _ c.next.ensures.steps
    (YieldsList-from_slice_split _ is_hash c.args.line.now c.split.ensures.rest c.split.ensures.done c.split.ensures.closure (λ x r q k. search (rules, tests)))
