use Rattle.model.proofs.RestLaws.{calls-act, calls_of-act}
use Rattle.model.proofs.databases.each_command_is_one_call.Goals as goal

pub returns-clause-calls : goal.returns-clause-calls
returns-clause-calls c = calls-act

pub returns-clause-counts : goal.returns-clause-counts
returns-clause-counts c = calls_of-act
