use Rattle.std.proofs.Common.{◌≡◌, ◌+◌, T, length}
use Rattle.std.specs.FinMap.Entries.{is_sorted}
use Rattle.cow_index.specs.Entries.{entries_from}
use Rattle.cow_index.proofs.tree.Tree.count_from.Given as goal

-- what is counted beside the keys at hand lies above them
abbrev pub invariant-loop-node : goal.invariant-loop-node
invariant-loop-node g l =
    T (is_sorted g.K.Ord.cmp l.at.0)
    × (l.count + length (entries_from g.K.Ord.cmp l.key l.at.0) ≡ length (entries_from g.K.Ord.cmp l.key l.self.0) + length l.at.0)

abbrev pub decreases-loop-node : goal.decreases-loop-node
decreases-loop-node g l = length l.at.0
