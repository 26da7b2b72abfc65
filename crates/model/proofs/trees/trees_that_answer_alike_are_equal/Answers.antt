use Rattle.model.proofs.TreeLaws.{same_trees}
use Rattle.model.proofs.trees.trees_that_answer_alike_are_equal.Goals as goal

pub returns : goal.returns
returns c = record { equal = same_trees }
