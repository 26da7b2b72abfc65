use Rattle.std.proofs.Common.{◌∙◌}
use Rattle.test_faults.proofs.refusing.fault_of.Goals as goal

pub returns-then-compacts-clause-refuses : goal.returns-then-compacts-clause-refuses
returns-then-compacts-clause-refuses c = λ k command crowded is. c.fault_of_compaction.ensures.refuses k command crowded (is ∙ c.if-compacts.true)

pub returns-clause-refuses : goal.returns-clause-refuses
returns-clause-refuses c = λ k command crowded is. c.fault_of_edit.ensures.refuses k command crowded (is ∙ c.if-compacts.false)
