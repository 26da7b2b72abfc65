use Rattle.std.proofs.Common.{◌≡◌}
use Rattle.revision_tree.specs.Rows.{nodes_of, lists_of, AreFilled}
use Rattle.revision_tree.proofs.whole.pieces_of.Given as goal

abbrev pub invariant-loop-node : goal.invariant-loop-node
invariant-loop-node l = record {
  nodes : nodes_of l.rows ≡ l.yielded;
  filled : AreFilled (lists_of l.rows.older.items);
}
