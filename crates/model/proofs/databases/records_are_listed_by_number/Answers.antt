use Rattle.model.proofs.IndexLaws.{listed_number, number_listed, numbers_rise, of_number, at_its_number}
use Rattle.model.proofs.databases.records_are_listed_by_number.Goals as goal

pub returns-clause-members : goal.returns-clause-members
returns-clause-members c d n id r num = (listed_number d (n, (id, r)), number_listed d n id r num)

pub returns-clause-order : goal.returns-clause-order
returns-clause-order c = numbers_rise

pub returns-clause-index : goal.returns-clause-index
returns-clause-index c d n id r num = (of_number d n id r, at_its_number d n id r num)
