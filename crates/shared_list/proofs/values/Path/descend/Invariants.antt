use Rattle.std.proofs.Common.{◌≡◌, ◌+◌, ◌*◌, ◌<◌, ◌≤◌, ◌++◌, ◌^◌, length, reverse}
use Rattle.shared_list.specs.declared.values.TheConstants.{MAX_PLACES}
use Rattle.shared_list.specs.Path.{held, waiting, FitFrom}
use Rattle.shared_list.proofs.values.Path.descend.Given as goal

abbrev pub invariant-loop-levels : goal.invariant-loop-levels
invariant-loop-levels g l =
    FitFrom 0 (held l.self) × (l.self.depth + 2 * l.levels ≤ MAX_PLACES) × (0 < l.levels) × (length l.at + 1 ≡ 2 ^ l.levels)
    × (reverse l.at ++ waiting (held l.self) ≡ reverse l.tree ++ waiting (held l.initial.self))

abbrev pub decreases-loop-levels : goal.decreases-loop-levels
decreases-loop-levels g l = l.levels
