use Rattle.journal.proofs.Lasting.{all_synced}
use Rattle.journal.proofs.surviving.what_was_synced_is_there.Goals as goal

pub returns : goal.returns
returns c k h text synced raising r holds left restored = all_synced k h text holds synced raising r restored left
