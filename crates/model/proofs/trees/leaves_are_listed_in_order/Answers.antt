use Rattle.model.proofs.LeafLaws.{Contains-leaves, IsRising-leaves, only_leaves}
use Rattle.model.proofs.trees.leaves_are_listed_in_order.Goals as goal

pub returns-clause-members : goal.returns-clause-members
returns-clause-members c = Contains-leaves

pub returns-clause-order : goal.returns-clause-order
returns-clause-order c = IsRising-leaves

pub returns-clause-only : goal.returns-clause-only
returns-clause-only c = only_leaves
