use Rattle.std.proofs.Common.{◌≡◌, true, false, take}
use Rattle.model.specs.Revision.{Rev}
use Rattle.model.specs.Tree.{among, is_leaf}
use Rattle.tree_merge.proofs.stems.has_leaf.Given as goal

abbrev pub invariant-loop-rev : goal.invariant-loop-rev
invariant-loop-rev l = (r : Rev) → is_leaf l.tree r ≡ true → among (take l.rev-index l.named) r ≡ false
