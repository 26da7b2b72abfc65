use Rattle.std.proofs.Common.{◌≡◌, map, take}
use Rattle.revision_tree.specs.Bared.{bare_row}
use Rattle.revision_tree.specs.Nodes.{rows_of}
use Rattle.revision_tree.specs.Rows.{lists_of}
use Rattle.revision_tree.proofs.strip.bare_pieces.Given as goal

abbrev pub invariant-loop-piece : goal.invariant-loop-piece
invariant-loop-piece l = map rows_of (lists_of l.bare.items) ≡ map (λ ns. map bare_row (rows_of ns)) (lists_of (take l.piece-index l.pieces))
