use Rattle.model.proofs.RowLaws.{Contains-rows, rows_rise}
use Rattle.model.proofs.histories.changes_list_later_updates.Goals as goal

pub returns-clause-rows : goal.returns-clause-rows
returns-clause-rows c wanted d since style r num = Contains-rows wanted d since style num r

pub returns-clause-rising : goal.returns-clause-rising
returns-clause-rising c = rows_rise
