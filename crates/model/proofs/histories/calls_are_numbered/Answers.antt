use Rattle.model.proofs.CallLaws.{calls-numbered, calls-replay, each_seat_once}
use Rattle.model.proofs.histories.calls_are_numbered.Goals as goal

pub returns-clause-numbers : goal.returns-clause-numbers
returns-clause-numbers c = calls-numbered

pub returns-clause-count : goal.returns-clause-count
returns-clause-count c = calls-replay

pub returns-clause-once : goal.returns-clause-once
returns-clause-once c = each_seat_once
