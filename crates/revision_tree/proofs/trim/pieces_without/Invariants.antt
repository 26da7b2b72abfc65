use Rattle.std.proofs.Common.{◌≡◌, take}
use Rattle.std.specs.List.{filter_map}
use Rattle.revision_tree.specs.Nodes.{rows_of}
use Rattle.revision_tree.specs.Rows.{joined, lists_of, AreFilled}
use Rattle.revision_tree.specs.Trimmed.{row_without}
use Rattle.revision_tree.proofs.trim.pieces_without.Given as goal

abbrev pub invariant-loop-piece : goal.invariant-loop-piece
invariant-loop-piece l = record {
  rows : rows_of (joined (lists_of l.left.items)) ≡ filter_map (row_without l.rev) (rows_of (joined (take l.piece-index (lists_of l.pieces))));
  filled : AreFilled (lists_of l.left.items);
}
