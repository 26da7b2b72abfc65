use Rattle.std.proofs.Common.{◌≡◌, ℕ, true}
use Rattle.model.specs.Tree.{Tree, IsForest, knows}
use Rattle.revision_runs.specs.Changes.{IsPartOf}
use Rattle.revision_runs.specs.TreeRuns.{AreRuns, IsWay}
use Rattle.revision_tree.specs.Nodes.{tree_of}
use Rattle.revision_tree.specs.Rows.{nodes_of}
use Rattle.revision_tree.proofs.links.top_above.Given as goal

abbrev pub invariant-loop-top : goal.invariant-loop-top
invariant-loop-top l = (t : Tree) → IsForest t → AreRuns t l.runs → knows t l.fn.rev ≡ true → IsPartOf t (tree_of (nodes_of l.rows)) → (n : ℕ) × IsWay t n l.fn.rev l.top × (knows t l.top ≡ true)

abbrev pub decreases-loop-top : goal.decreases-loop-top
decreases-loop-top l = l.top.generation
