use Rattle.std.proofs.Common.{◌≡◌, ◌+◌, ◌^◌, ◌<◌, ◌≤◌, ◌++◌, length, reverse}
use Rattle.shared_list.specs.Path.{held, waiting, FitFrom}
use Rattle.shared_list.proofs.values.Path.begin.Given as goal

abbrev pub invariant-loop-link : goal.invariant-loop-link
invariant-loop-link g l =
    FitFrom 0 (held l.self) × (l.self.depth + length l.at.1 ≤ 65) × (length l.at.0 < 2 ^ 64)
    × (reverse l.at.0 ++ waiting (held l.self) ≡ reverse l.spine.0)

abbrev pub decreases-loop-link : goal.decreases-loop-link
decreases-loop-link g l = length l.at.1
