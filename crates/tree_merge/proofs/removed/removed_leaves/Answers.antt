use Rattle.tree_merge.proofs.Writes.{added_next}
use Rattle.tree_merge.proofs.removed.removed_leaves.Goals as goal

pub loop-rev-preserved : goal.loop-rev-preserved
loop-rev-preserved c = record {
  leaves = added_next c.args.named.now c.args.tree.now c.loop-rev.rev-index c.rev-item.result c.loop-rev.leaves.items c.add.new.leaves.items c.loop-rev-test.true c.rev-item.is c.loop-rev.invariant.leaves c.in_ok-add.ensures.leaves;
  seen = c.in_ok-add.ensures.seen;
}
