-- `tour` meets its contract: the job is refused by the reader, or its points and picks are delivered.
use Rattle.std.proofs.Common.{refl, arith, length-take}
use Rattle.job.specs.Text.{report_text}
use Rattle.job.proofs.ReadJobs.{was_read, was_refused, read_lent}
use Rattle.tour.proofs.Jobs.{refused_printed, read_printed}
use Rattle.tour.proofs.tour.Goals as goal

pub slice_bounds-picks-end : goal.slice_bounds-picks-end
slice_bounds-picks-end c =
    let w = was_read _ _ _ _ c.read_job.ensures c.in-Ok.is in
    omega (arith, w.checks.roomp, c.read_job.auto.picks)

pub slice_bounds-deliver-end-in-Ok-2 : goal.slice_bounds-deliver-end-in-Ok-2
slice_bounds-deliver-end-in-Ok-2 c =
    let w = was_read _ _ _ _ c.read_job.ensures c.in-Ok.is in
    simp length-take (omega (arith, w.checks.roomp, c.read_job.auto.picks))

pub invariant_of-deliver : goal.invariant_of-deliver
invariant_of-deliver c = record { lent = read_lent (was_read _ _ _ _ c.read_job.ensures c.in-Ok.is) }

pub deliver-requires : goal.deliver-requires
deliver-requires c =
    let w = was_read _ _ _ _ c.read_job.ensures c.in-Ok.is in
    (w.checks.few, c.requires)

pub returns-in-Ok-clause-put : goal.returns-in-Ok-clause-put
returns-in-Ok-clause-put c =
    let w = was_read _ _ _ _ c.read_job.ensures c.in-Ok.is in
    rw (← read_printed _ _ _ _ refl refl refl refl refl w) c.deliver.ensures.put

pub returns-in-Err-clause-put : goal.returns-in-Err-clause-put
unfolding report_text
returns-in-Err-clause-put c =
    let w = was_refused _ _ _ _ c.read_job.ensures c.in-Err.is in
    rw (← refused_printed _ _ _ _ refl refl refl _ w) c.put_report.ensures.put
