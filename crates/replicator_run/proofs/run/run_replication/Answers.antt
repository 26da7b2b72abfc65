use Rattle.replicator_run.specs.Reopened.{GoesOver}
use Rattle.replicator_run.proofs.Reports.{replicates_from}
use Rattle.replicator_run.proofs.run.run_replication.Goals as goal

pub returns : goal.returns
returns g c =
    replicates_from c.args.skips GoesOver GoesOver (λ e. e.failed_calls) (λ e. e.failed_calls) c.args.id c.args.ids c.replicate.result _ _ _ _ c.new-source.ensures c.new-target.ensures c.replicate.ensures
