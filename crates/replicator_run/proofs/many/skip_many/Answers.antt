use Rattle.std.proofs.Common.{arith}
use Rattle.replicator_run.specs.Skipped.{without_many}
use Rattle.replicator_run.proofs.Changed.{next-changed}
use Rattle.replicator_run.proofs.many.skip_many.Goals as goal

pub loop-row-preserved : goal.loop-row-preserved
loop-row-preserved g c =
    next-changed without_many c.args.rows.now c.loop-row.rows c.loop-row.row-index c.row-item.result c.skip_leaves.new.row (omega arith) c.loop-row.invariant c.skip_leaves.ensures
