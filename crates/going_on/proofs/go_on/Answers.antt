-- `go_on` meets its contract: the input is too short for its picks, or its image is taken up with them.
use Rattle.std.proofs.Common.{subst}
use Rattle.job.specs.Buffers.{Put}
use Rattle.job.specs.Text.{report_text}
use Rattle.going_on.proofs.Inputs.{some_printed, none_printed}
use Rattle.going_on.proofs.go_on.Goals as goal

pub returns-in-Ok-clause-put : goal.returns-in-Ok-clause-put
returns-in-Ok-clause-put c =
    let (enough, is, room) = c.in-Ok.ensures.ok in
    subst (λ t. Put c.args.out.now 0 t c.go_on_from.result c.go_on_from.new.out) (some_printed c.args.input.now c.args.picks.now enough is c.fill.ensures) c.go_on_from.ensures.put

pub returns-in-Err-clause-put : goal.returns-in-Err-clause-put
unfolding report_text
returns-in-Err-clause-put c =
    let (short, e) = c.in-Err.ensures.err in
    subst (λ t. Put c.args.out.now 0 t c.put_report.result c.put_report.new.out) (none_printed c.args.input.now short e) c.put_report.ensures.put
