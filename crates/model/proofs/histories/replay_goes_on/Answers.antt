use Rattle.model.proofs.HistoryLaws.{replay-append, replay-push, batch_entries-append}
use Rattle.model.proofs.histories.replay_goes_on.Goals as goal

pub returns-clause-pushed : goal.returns-clause-pushed
returns-clause-pushed c = replay-push

pub returns-clause-appended : goal.returns-clause-appended
returns-clause-appended c = replay-append

pub returns-clause-batch : goal.returns-clause-batch
returns-clause-batch c = batch_entries-append
