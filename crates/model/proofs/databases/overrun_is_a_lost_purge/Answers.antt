use Rattle.model.proofs.LogLaws.{lost-is_overrun, is_overrun-lost, is_overrun-numbered, since-all}
use Rattle.model.proofs.databases.overrun_is_a_lost_purge.Goals as goal

pub returns-clause-lost : goal.returns-clause-lost
returns-clause-lost c l mark = (lost-is_overrun l mark, is_overrun-lost l mark)

pub returns-clause-test : goal.returns-clause-test
returns-clause-test c l mark h = is_overrun-numbered l mark h

pub returns-clause-since : goal.returns-clause-since
returns-clause-since c l all mark h newest within = since-all l all mark h newest within
