use Rattle.std.proofs.Common.{rules}
use Rattle.updater.proofs.Steps.{goes_step}
use Rattle.updater.proofs.apply_batch.Goals as goal

pub loop-job-preserved : goal.loop-job-preserved
loop-job-preserved c =
    goes_step _ c.loop-job.next _ c.args.jobs.now c.loop-job.job-index _ c.job-item.result c.loop-job.invariant c.loop-job-test.true c.job-item.is (search rules)
