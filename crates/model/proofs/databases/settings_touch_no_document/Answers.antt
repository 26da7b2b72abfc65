use Rattle.std.specs.Prelude.{refl}
use Rattle.model.specs.Database.{act, changed_by}
use Rattle.model.proofs.databases.settings_touch_no_document.Goals as goal

pub returns-clause-limit : goal.returns-clause-limit
unfolding act changed_by
returns-clause-limit c d seat n = refl

pub returns-clause-purged_limit : goal.returns-clause-purged_limit
unfolding act changed_by
returns-clause-purged_limit c d seat n = refl

pub returns-clause-local : goal.returns-clause-local
unfolding act changed_by
returns-clause-local c d seat id named body = refl
