use Rattle.changes_feed.proofs.Claimed.{next_itself}
use Rattle.changes_feed.proofs.opened.are_latest.Goals as goal

pub loop-rev-preserved : goal.loop-rev-preserved
loop-rev-preserved c =
    next_itself c.args.tree.now c.args.asked.now c.loop-rev.rev-index c.rev-item.result c.loop-rev-test.true c.rev-item.is
    (c.is_latest.ensures c.if-not-is_latest.false) c.loop-rev.invariant
