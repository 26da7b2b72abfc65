use Rattle.std.proofs.Common.{◌≡◌, take}
use Rattle.model.specs.TreeChange.{removed_leaves}
use Rattle.tree_merge.specs.Seen.{AreSeen}
use Rattle.tree_merge.proofs.removed.removed_leaves.Given as goal

abbrev pub invariant-loop-rev : goal.invariant-loop-rev
invariant-loop-rev l = record {
  leaves : l.leaves.items ≡ removed_leaves (take l.rev-index l.named) l.tree;
  seen : AreSeen l.seen l.leaves.items;
}
