use Rattle.cow_index.proofs.Runs.{shows_in_order}
use Rattle.cow_index.proofs.map.CowMap.iter.Goals as goal

pub returns-clause-runs : goal.returns-clause-runs
returns-clause-runs g c = shows_in_order
