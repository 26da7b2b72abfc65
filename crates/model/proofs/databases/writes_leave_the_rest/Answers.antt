use Rattle.model.proofs.RestLaws.{rest_of_edits, rest_of_merges, rest_of_purges, log_limit_of_purges}
use Rattle.model.proofs.databases.writes_leave_the_rest.Goals as goal

pub returns-clause-edits : goal.returns-clause-edits
returns-clause-edits c = rest_of_edits

pub returns-clause-merges : goal.returns-clause-merges
returns-clause-merges c = rest_of_merges

pub returns-clause-purges : goal.returns-clause-purges
returns-clause-purges c = rest_of_purges

pub returns-clause-log_limit : goal.returns-clause-log_limit
returns-clause-log_limit c = log_limit_of_purges
