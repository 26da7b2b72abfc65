use Rattle.model.proofs.AgreeLaws.{Agrees-entry, Agrees-replay, is_overrun-replay}
use Rattle.model.proofs.databases.agreement_lasts.Goals as goal

pub returns-clause-entry : goal.returns-clause-entry
returns-clause-entry c = Agrees-entry

pub returns-clause-lasts : goal.returns-clause-lasts
returns-clause-lasts c = Agrees-replay

pub returns-clause-overrun : goal.returns-clause-overrun
returns-clause-overrun c = is_overrun-replay
