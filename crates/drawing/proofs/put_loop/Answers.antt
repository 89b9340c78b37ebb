-- `put_loop` meets its contract: what is found of the rounded pads in their own order is told.
use Rattle.std.proofs.Common.{refl, sym, ap, ◌∙◌, length, take, arith}
use Rattle.job.specs.Steps.{steps}
use Rattle.job.specs.Text.{refused_line}
use Rattle.drawing.proofs.Found.{many_printed, length_one}
use Rattle.drawing.proofs.Rounded.{rounded_first, counted_first, told_printed}
use Rattle.drawing.proofs.put_loop.Goals as goal

pub returns-then-n-gt256-clause-text : goal.returns-then-n-gt256-clause-text
unfolding refused_line
returns-then-n-gt256-clause-text c = rw (← many_printed c.args.x.now c.args.y.now c.if-n-gt256.true, ← c.number.ensures) c.put_line.ensures

pub returns-then-n-gt256-clause-short : goal.returns-then-n-gt256-clause-short
returns-then-n-gt256-clause-short c = rw (← many_printed c.args.x.now c.args.y.now c.if-n-gt256.true) (omega (arith, length_one))

pub returns-clause-text : goal.returns-clause-text
returns-clause-text c =
    let x = c.args.x.now in
    let y = c.args.y.now in
    let ex = ap (take (length x)) c.round.ensures ∙ rounded_first steps x _ refl in
    let ey = ap (take (length x)) c.round-2.ensures ∙ rounded_first steps y _ (sym c.requires.0) in
    let er = ap (take (length x)) c.fill.ensures ∙ counted_first (length x) _ in
    rw (told_printed x y ex ey er) at c.put_found.ensures.text

pub returns-clause-short : goal.returns-clause-short
returns-clause-short c =
    let x = c.args.x.now in
    let y = c.args.y.now in
    let ex = ap (take (length x)) c.round.ensures ∙ rounded_first steps x _ refl in
    let ey = ap (take (length x)) c.round-2.ensures ∙ rounded_first steps y _ (sym c.requires.0) in
    let er = ap (take (length x)) c.fill.ensures ∙ counted_first (length x) _ in
    rw (told_printed x y ex ey er) at c.put_found.ensures.short
