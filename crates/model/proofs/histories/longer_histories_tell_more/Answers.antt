use Rattle.model.proofs.TellLaws.{Tells-extended, AllTold-extended, Tells-within}
use Rattle.model.proofs.histories.longer_histories_tell_more.Goals as goal

pub returns-clause-each : goal.returns-clause-each
returns-clause-each c later earlier call x = Tells-extended later earlier x call

pub returns-clause-all : goal.returns-clause-all
returns-clause-all c later earlier calls x = AllTold-extended later earlier x calls

pub returns-clause-places : goal.returns-clause-places
returns-clause-places c = Tells-within
