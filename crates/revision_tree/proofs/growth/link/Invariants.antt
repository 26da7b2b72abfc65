use Rattle.std.proofs.Common.{drop}
use Rattle.revision_tree.specs.Growth.{AreLinked}
use Rattle.revision_tree.specs.Nodes.{tree_of}
use Rattle.revision_tree.specs.Rows.{nodes_of, lists_of, AreFilled}
use Rattle.revision_tree.proofs.growth.link.Given as goal

abbrev pub invariant-loop-place : goal.invariant-loop-place
invariant-loop-place l = record {
  linked : AreLinked (drop l.place l.older) (tree_of (nodes_of l.fn.rows)) (nodes_of l.rows);
  filled : AreFilled (lists_of l.rows.older.items);
}
