use Rattle.std.proofs.Common.{◌≡◌, ◌<◌, ◌≤◌, ◌-◌, true, false, length, get_or}
use Rattle.revision_tree.specs.Rows.{Piece, items_of, starts_by}
use Rattle.revision_tree.proofs.place.starting.Given as goal

abbrev pub invariant-loop-low : goal.invariant-loop-low
invariant-loop-low l = record {
  ordered : l.low ≤ l.high;
  bound : l.high ≤ length l.pieces;
  below : (p : Piece) → 0 < l.low → starts_by l.rev (items_of (get_or l.pieces (l.low - 1) p)) ≡ true;
  above : (p : Piece) → l.high < length l.pieces → starts_by l.rev (items_of (get_or l.pieces l.high p)) ≡ false;
}

abbrev pub decreases-loop-low : goal.decreases-loop-low
decreases-loop-low l = l.high - l.low
