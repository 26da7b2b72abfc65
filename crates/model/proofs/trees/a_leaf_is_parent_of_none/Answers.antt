use Rattle.model.proofs.TreeLaws.{has_child-child, is_leaf-childless}
use Rattle.model.proofs.trees.a_leaf_is_parent_of_none.Goals as goal

pub returns-clause-inner : goal.returns-clause-inner
returns-clause-inner c = has_child-child

pub returns-clause-leaf : goal.returns-clause-leaf
returns-clause-leaf c = is_leaf-childless
