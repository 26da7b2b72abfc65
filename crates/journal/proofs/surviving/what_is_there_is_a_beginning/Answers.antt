use Rattle.journal.proofs.Lasting.{all_synced, is_beginning}
use Rattle.journal.proofs.surviving.what_is_there_is_a_beginning.Goals as goal

pub returns-clause-beginning : goal.returns-clause-beginning
returns-clause-beginning c k h text synced raising r holds left restored = is_beginning k h text holds synced raising r restored left

pub returns-clause-synced : goal.returns-clause-synced
returns-clause-synced c k h text synced raising r holds left restored = all_synced k h text holds synced raising r restored left.survives
