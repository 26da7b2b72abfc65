use Rattle.std.proofs.Common.{◌≡◌, take}
use Rattle.revision_tree.specs.Rows.{lists_of}
use Rattle.revision_tree.proofs.rows.shared.Given as goal

abbrev pub invariant-loop-piece : goal.invariant-loop-piece
invariant-loop-piece l = lists_of l.same.items ≡ lists_of (take l.piece-index l.pieces)
