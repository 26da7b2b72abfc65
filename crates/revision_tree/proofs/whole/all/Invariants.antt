use Rattle.std.proofs.Common.{◌≡◌, take}
use Rattle.revision_tree.specs.Nodes.{rows_of}
use Rattle.revision_tree.specs.Rows.{joined, lists_of}
use Rattle.revision_tree.proofs.whole.all.Given as goal

abbrev pub invariant-loop-piece : goal.invariant-loop-piece
invariant-loop-piece l = rows_of l.nodes.items ≡ rows_of (joined (take l.piece-index (lists_of l.rows.older.items)))
