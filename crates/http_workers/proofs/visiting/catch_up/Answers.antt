use Rattle.std.proofs.Common.{None, Some, refl}
use Rattle.http_workers.proofs.visiting.catch_up.Goals as goal

pub returns-then-place-came-clause-catches_up : goal.returns-then-place-came-clause-catches_up
returns-then-place-came-clause-catches_up g c = (None, refl)

pub returns-clause-catches_up : goal.returns-clause-catches_up
returns-clause-catches_up g c = (Some c.refresh-looked.result, record { made = c.refresh-looked.ensures.goes; learns = c.refresh-looked.ensures.learns })
