use Rattle.model.proofs.NumberLaws.{IsNumbered-act, update_seq-replay, purge_seq-replay}
use Rattle.model.proofs.databases.numbers_stay_distinct_and_never_fall.Goals as goal

pub returns-clause-distinct : goal.returns-clause-distinct
returns-clause-distinct c = IsNumbered-act

pub returns-clause-update : goal.returns-clause-update
returns-clause-update c = update_seq-replay

pub returns-clause-purge : goal.returns-clause-purge
returns-clause-purge c = purge_seq-replay
