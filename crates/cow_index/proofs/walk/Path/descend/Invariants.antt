use Rattle.std.proofs.Common.{◌≡◌, ◌+◌, ◌≤◌, ◌++◌, length}
use Rattle.cow_index.specs.declared.tree.TheConstants.{MAX_HEIGHT}
use Rattle.cow_index.specs.Path.{held, waiting, FitFrom}
use Rattle.cow_index.proofs.walk.Path.descend.Given as goal

abbrev pub invariant-loop-node : goal.invariant-loop-node
invariant-loop-node g l =
    FitFrom 0 (held l.self) × (l.self.depth + l.at.1 ≤ MAX_HEIGHT)
    × (l.at.0 ++ waiting (held l.self) ≡ l.tree.0 ++ waiting (held l.initial.self))

abbrev pub decreases-loop-node : goal.decreases-loop-node
decreases-loop-node g l = length l.at.0
