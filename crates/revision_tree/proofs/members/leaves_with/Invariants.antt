use Rattle.std.proofs.Common.{take}
use Rattle.model.specs.Tree.{among}
use Rattle.revision_tree.specs.Ranks.{AreLeft}
use Rattle.revision_tree.proofs.members.leaves_with.Given as goal

abbrev pub invariant-loop-rev : goal.invariant-loop-rev
invariant-loop-rev l = AreLeft l.tree (among (take l.rev-index l.older)) l.left.entries
