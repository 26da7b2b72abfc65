use Rattle.version_log.proofs.OneStore.{finds}
use Rattle.version_log.proofs.publisher.look_through.Goals as goal

pub enter_as-requires : goal.enter_as-requires
enter_as-requires c = finds _ _
