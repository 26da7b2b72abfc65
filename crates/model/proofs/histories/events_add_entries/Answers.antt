use Rattle.model.proofs.EntryLaws.{put_adds, put_refused, swap_adds, others_add_nothing}
use Rattle.model.proofs.histories.events_add_entries.Goals as goal

pub returns-clause-put : goal.returns-clause-put
returns-clause-put c = put_adds

pub returns-clause-full : goal.returns-clause-full
returns-clause-full c = put_refused

pub returns-clause-swap : goal.returns-clause-swap
returns-clause-swap c = swap_adds

pub returns-clause-others : goal.returns-clause-others
returns-clause-others c = others_add_nothing
