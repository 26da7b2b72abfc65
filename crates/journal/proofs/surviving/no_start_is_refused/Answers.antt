use Rattle.journal.proofs.Lasting.{none_refused}
use Rattle.journal.proofs.surviving.no_start_is_refused.Goals as goal

pub returns : goal.returns
returns c k h text synced holds left low verdict at = none_refused k h text holds synced left low verdict at
