use Rattle.journal.proofs.Lasting.{appended_numbers, raised_numbers, synced_numbers}
use Rattle.journal.proofs.surviving.no_number_is_given_twice.Goals as goal

pub returns-clause-synced : goal.returns-clause-synced
returns-clause-synced c k h text synced raising r holds left restored n low = synced_numbers k h text holds synced raising r restored left n low

pub returns-clause-raised : goal.returns-clause-raised
returns-clause-raised c k h text synced raising r holds left restored rose n low = raised_numbers k h text holds synced raising r restored left rose n low

pub returns-clause-appended : goal.returns-clause-appended
returns-clause-appended c k h text synced raising r holds left restored n low = appended_numbers k h text holds synced raising r restored left n low
