use Rattle.std.proofs.Common.{ℕ}
use Rattle.model.specs.Tree.{Tree, IsForest}
use Rattle.revision_runs.specs.TreeRuns.{AreRunsBut, height}
use Rattle.revision_runs.proofs.climb.settled.Given as goal

abbrev pub invariant-loop-climb : goal.invariant-loop-climb
invariant-loop-climb l = (t : Tree) → IsForest t → AreRunsBut t l.fn.fork l.fn.runs → AreRunsBut t l.climb.next l.climb.runs

abbrev pub decreases-loop-climb : goal.decreases-loop-climb
decreases-loop-climb l = height l.climb.next
