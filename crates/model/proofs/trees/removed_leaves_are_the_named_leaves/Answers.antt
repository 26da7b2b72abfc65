use Rattle.model.proofs.OnceLaws.{Contains-removed_leaves, AllPairs-removed_leaves, removed_leaves-push}
use Rattle.model.proofs.trees.removed_leaves_are_the_named_leaves.Goals as goal

pub returns-clause-members : goal.returns-clause-members
returns-clause-members c = Contains-removed_leaves

pub returns-clause-once : goal.returns-clause-once
returns-clause-once c = AllPairs-removed_leaves

pub returns-clause-next : goal.returns-clause-next
returns-clause-next c = removed_leaves-push
