use Rattle.version_log.proofs.OneStore.{one_more}
use Rattle.version_log.proofs.publisher.show_next.Goals as goal

pub publish_pending-requires : goal.publish_pending-requires
publish_pending-requires g c =
    rw c.in-Ok.ensures.desk (one_more c.args.writer.desk.shown.value _ _ c.args.shown c.requires.pends c.requires.store c.in-Ok.ensures.pending)
