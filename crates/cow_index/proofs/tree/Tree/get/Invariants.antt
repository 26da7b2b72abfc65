use Rattle.std.proofs.Common.{◌≡◌, T, length}
use Rattle.std.specs.FinMap.Entries.{find, is_sorted}
use Rattle.cow_index.proofs.tree.Tree.get.Given as goal

abbrev pub invariant-loop-node : goal.invariant-loop-node
invariant-loop-node g l = T (is_sorted g.K.Ord.cmp l.at.0) × (find g.K.Ord.cmp l.key l.at.0 ≡ find g.K.Ord.cmp l.key l.self.0)

abbrev pub decreases-loop-node : goal.decreases-loop-node
decreases-loop-node g l = length l.at.0
