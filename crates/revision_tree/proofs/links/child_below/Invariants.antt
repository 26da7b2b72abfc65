use Rattle.std.proofs.Common.{ℕ}
use Rattle.model.specs.Revision.{Rev}
use Rattle.model.specs.Tree.{Tree, IsForest}
use Rattle.revision_runs.specs.Changes.{IsPartOf}
use Rattle.revision_runs.specs.TreeRuns.{IsOnlyChild, IsWay}
use Rattle.revision_tree.specs.Nodes.{tree_of}
use Rattle.revision_tree.specs.Rows.{nodes_of}
use Rattle.revision_tree.proofs.links.child_below.Given as goal

abbrev pub invariant-loop-rev : goal.invariant-loop-rev
invariant-loop-rev l = (t : Tree) (x : Rev) (n : ℕ) → IsForest t → IsOnlyChild t l.fn.rev x → IsWay t n l.fn.bottom x → IsPartOf t (tree_of (nodes_of l.rows)) → (k : ℕ) × IsWay t k l.child x

abbrev pub decreases-loop-rev : goal.decreases-loop-rev
decreases-loop-rev l = l.child.generation
