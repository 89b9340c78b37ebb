-- `stop` meets its contract: the job is refused by the reader, or its run is saved.
use Rattle.std.proofs.Common.{refl, arith, length-take, subst}
use Rattle.std.proofs.lemmas.Result.{err_from_is_err_and}
use Rattle.job.proofs.ReadJobs.{was_read, was_refused, read_lent}
use Rattle.stopping.specs.Stopped.{Stopping}
use Rattle.stopping.proofs.Jobs.{refused_job, read_job}
use Rattle.stopping.proofs.stop.Goals as goal

pub returns-in_err-n-clause-saved : goal.returns-in_err-n-clause-saved
returns-in_err-n-clause-saved c =
    let q = err_from_is_err_and c.from_residual.result c.from_residual.ensures.1 in
    rw (q.1, q.2) (refused_job c.args.job.now _ _ _ refl refl refl c.in_err-n.field-0.0 (was_refused _ _ _ _ c.read_job.ensures c.in_err-n.was) c.args.out.now)

pub slice_bounds-picks-end : goal.slice_bounds-picks-end
slice_bounds-picks-end c =
    let w = was_read _ _ _ _ c.read_job.ensures c.in_ok-n.was in
    omega (arith, w.checks.roomp, c.read_job.auto.picks)

pub slice_bounds-stop_run-end-3 : goal.slice_bounds-stop_run-end-3
slice_bounds-stop_run-end-3 c =
    let w = was_read _ _ _ _ c.read_job.ensures c.in_ok-n.was in
    simp length-take (omega (arith, w.checks.roomp, c.read_job.auto.picks))

pub invariant_of-stop_run : goal.invariant_of-stop_run
invariant_of-stop_run c = record { lent = read_lent (was_read _ _ _ _ c.read_job.ensures c.in_ok-n.was) }

pub stop_run-requires : goal.stop_run-requires
stop_run-requires c = ((was_read _ _ _ _ c.read_job.ensures c.in_ok-n.was).checks.few, c.requires)

pub returns-clause-saved : goal.returns-clause-saved
returns-clause-saved c =
    let e = read_job c.args.job.now _ _ _ refl refl refl refl refl (was_read _ _ _ _ c.read_job.ensures c.in_ok-n.was) in
    subst (λ a. Stopping a c.args.out.now c.stop_run.result c.stop_run.new.out) e c.stop_run.ensures.saved
