use Rattle.std.proofs.Common.{drop}
use Rattle.left_right.specs.Sides.{view as known}
use Rattle.version_log.proofs.Knowing.{knows_opened}
use Rattle.version_log.proofs.OneStore.{opens, next_same}
use Rattle.version_log.proofs.publisher.opened.Goals as goal

pub publish_as-writer-requires : goal.publish_as-writer-requires
publish_as-writer-requires g c next is =
    let desk = c.args.writer.desk in
    opens desk.place.id (known desk.place) desk.shown.value next (next_same desk.shown.value next _ is c.requires)

pub returns : goal.returns
returns g c =
    let before = c.args.writer in
    let after = c.publish_as-writer.result.0 in
    knows_opened c.publish_as-writer.result.1 (known before.desk.place) (known after.desk.place) before.desk.shown.value after.desk.shown.value (drop after.behind after.log.items) (drop before.behind before.log.items)
    tt c.in-Ok.is c.publish_as-writer.ensures.rule c.publish_as-writer.ensures.values
