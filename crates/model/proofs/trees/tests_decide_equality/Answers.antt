use Rattle.model.proofs.SameLaws.{same_body-equal, same_tree-equal}
use Rattle.model.proofs.trees.tests_decide_equality.Goals as goal

pub returns-clause-body : goal.returns-clause-body
returns-clause-body c = same_body-equal

pub returns-clause-tree : goal.returns-clause-tree
returns-clause-tree c = same_tree-equal
