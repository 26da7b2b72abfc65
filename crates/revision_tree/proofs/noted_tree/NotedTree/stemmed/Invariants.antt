use Rattle.std.proofs.Common.{◌≡◌}
use Rattle.model.specs.TreeChange.{stem}
use Rattle.revision_tree.specs.Stems.{weight}
use Rattle.revision_tree.proofs.noted_tree.NotedTree.stemmed.Given as goal

abbrev pub invariant-loop-top : goal.invariant-loop-top
invariant-loop-top l = stem l.fn.limit l.tree ≡ stem l.fn.limit l.fn.self

abbrev pub decreases-loop-top : goal.decreases-loop-top
decreases-loop-top l = weight l.tree
