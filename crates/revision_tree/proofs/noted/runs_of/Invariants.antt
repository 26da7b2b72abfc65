use Rattle.std.proofs.Common.{map}
use Rattle.revision_runs.specs.TreeRuns.{AreRuns}
use Rattle.revision_tree.proofs.Built.{shell}
use Rattle.revision_tree.proofs.noted.runs_of.Given as goal

abbrev pub invariant-loop-node : goal.invariant-loop-node
invariant-loop-node l = AreRuns (shell (map (λ x. x.now) l.yielded)) l.runs
