use Rattle.std.proofs.Common.{◌≡◌, ◌+◌, ◌≤◌, ◌++◌, T, length}
use Rattle.std.specs.FinMap.Entries.{is_sorted}
use Rattle.cow_index.specs.declared.tree.TheConstants.{MAX_HEIGHT}
use Rattle.cow_index.specs.Entries.{entries_from}
use Rattle.cow_index.specs.Path.{held, waiting, FitFrom}
use Rattle.cow_index.proofs.walk.Path.descend_from.Given as goal

abbrev pub invariant-loop-node : goal.invariant-loop-node
invariant-loop-node g l =
    T (is_sorted g.K.Ord.cmp l.at.0) × FitFrom 0 (held l.self) × (l.self.depth + l.at.1 ≤ MAX_HEIGHT)
    × (entries_from g.K.Ord.cmp l.key l.at.0 ++ waiting (held l.self) ≡ entries_from g.K.Ord.cmp l.key l.tree.0 ++ waiting (held l.initial.self))

abbrev pub decreases-loop-node : goal.decreases-loop-node
decreases-loop-node g l = length l.at.0
