use Rattle.std.proofs.Common.{◌≡◌, length}
use Rattle.model.specs.Database.{same_tree}
use Rattle.revision_tree.specs.Walk.{left_of}
use Rattle.tree_merge.proofs.Compared.{Alike}
use Rattle.tree_merge.proofs.matches.is_same.Given as goal

abbrev pub invariant-loop-node : goal.invariant-loop-node
invariant-loop-node l = Alike (left_of l.mine) (left_of l.theirs) ≡ same_tree l.one l.other

abbrev pub decreases-loop-node : goal.decreases-loop-node
decreases-loop-node l = length (left_of l.mine)
