use Rattle.left_right.specs.Sides.{view as known}
use Rattle.version_log.proofs.OneStore.{keeps, next_of, same_store}
use Rattle.version_log.proofs.publisher.publish_pending.Goals as goal

pub publish_as-requires : goal.publish_as-requires
publish_as-requires g c next is =
    let desk = c.args.writer.desk in
    keeps desk.place.id (known desk.place) desk.shown.value next (next_of desk.shown.value next _ is c.requires)

pub returns-clause-shows : goal.returns-clause-shows
returns-clause-shows g c = same_store _ _ _ _ _ _ _ c.publish_as.ensures.rule c.publish_as.ensures.values
