use Rattle.revision_tree.specs.Nodes.{rows_of}
use Rattle.revision_tree.specs.Rows.{joined, lists_of}
use Rattle.revision_tree.proofs.Pieces.{piece_filled}
use Rattle.revision_tree.proofs.Shortened.{above_next, rising_piece}
use Rattle.revision_tree.proofs.shorten.pieces_above.Goals as goal

pub add_piece-requires : goal.add_piece-requires
add_piece-requires c = record {
  some = piece_filled c.args.pieces.now c.loop-piece.piece-index c.piece-item.result c.requires.filled c.loop-piece-test.true c.piece-item.is;
  rising = rising_piece c.args.pieces.now c.loop-piece.piece-index c.piece-item.result c.requires.rising c.loop-piece-test.true c.piece-item.is;
}

pub loop-piece-preserved : goal.loop-piece-preserved
loop-piece-preserved c = record {
  rows = above_next c.args.generation c.args.pieces.now c.loop-piece.piece-index c.piece-item.result (rows_of (joined (lists_of c.loop-piece.above.items))) (rows_of (joined (lists_of c.add_piece.new.above.items))) c.loop-piece-test.true c.piece-item.is
      c.loop-piece.invariant.rows c.in_ok-add_piece.ensures.rows;
  filled = c.in_ok-add_piece.ensures.filled c.loop-piece.invariant.filled;
}
