use Rattle.std.proofs.Common.{◌≡◌, ◌++◌, true, Some}
use Rattle.std.specs.Prelude.{IfSome}
use Rattle.model.specs.Tree.{ancestors, knows}
use Rattle.revision_tree.specs.Nodes.{tree_of}
use Rattle.revision_tree.specs.Rows.{nodes_of}
use Rattle.revision_tree.proofs.Places.{above}
use Rattle.revision_tree.proofs.search.path_from.Given as goal

abbrev pub invariant-loop-next : goal.invariant-loop-next
invariant-loop-next l = record {
  walked : l.path.items ++ ancestors (tree_of (nodes_of l.rows)) l.next ≡ ancestors (tree_of (nodes_of l.rows)) (Some l.fn.rev);
  known : IfSome l.next (λ r. knows (tree_of (nodes_of l.rows)) r ≡ true);
}

abbrev pub decreases-loop-next : goal.decreases-loop-next
decreases-loop-next l = above l.next
