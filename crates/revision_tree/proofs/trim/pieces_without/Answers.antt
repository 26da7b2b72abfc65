use Rattle.revision_tree.specs.Nodes.{rows_of}
use Rattle.revision_tree.specs.Rows.{joined, lists_of}
use Rattle.revision_tree.specs.Trimmed.{row_without}
use Rattle.revision_tree.proofs.Pieces.{piece_filled}
use Rattle.revision_tree.proofs.Trimmed.{without_next, part_at}
use Rattle.revision_tree.proofs.trim.pieces_without.Goals as goal

pub add_piece-requires : goal.add_piece-requires
add_piece-requires c = record {
  some = piece_filled c.args.pieces.now c.loop-piece.piece-index c.piece-item.result c.requires.filled c.loop-piece-test.true c.piece-item.is;
  part = part_at c.args.rev c.args.child c.args.pieces.now c.loop-piece.piece-index c.piece-item.result c.requires.parts c.loop-piece-test.true c.piece-item.is;
}

pub loop-piece-preserved : goal.loop-piece-preserved
loop-piece-preserved c = record {
  rows = without_next (row_without c.args.rev) c.args.pieces.now c.loop-piece.piece-index c.piece-item.result (rows_of (joined (lists_of c.loop-piece.left.items))) (rows_of (joined (lists_of c.add_piece.new.left.items))) c.loop-piece-test.true c.piece-item.is
      c.loop-piece.invariant.rows c.in_ok-add_piece.ensures.rows;
  filled = c.in_ok-add_piece.ensures.filled c.loop-piece.invariant.filled;
}
