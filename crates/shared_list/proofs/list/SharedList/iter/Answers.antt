use Rattle.shared_list.proofs.Runs.{shows_in_order}
use Rattle.shared_list.proofs.list.SharedList.iter.Goals as goal

pub returns-clause-runs : goal.returns-clause-runs
returns-clause-runs g c = shows_in_order
