use Rattle.journal.proofs.Lasting.{all_appended, ends_whole}
use Rattle.journal.proofs.surviving.what_was_appended_is_there.Goals as goal

pub returns-clause-history : goal.returns-clause-history
returns-clause-history c k h text synced raising r holds left restored = all_appended k h text holds synced raising r restored left

pub returns-clause-whole : goal.returns-clause-whole
returns-clause-whole c k h text synced raising r holds left restored = ends_whole k h text holds synced raising r restored left
