use Rattle.std.proofs.Common.{◌≡◌}
use Rattle.sessions.proofs.copying.slice_all.Given as goal

abbrev pub invariant-loop-left : goal.invariant-loop-left
invariant-loop-left g l = record {
  left : l.left ≡ l.copy.left;
  seen : l.copy.seen ≡ l.fn.copy.seen;
}

abbrev pub decreases-loop-left : goal.decreases-loop-left
decreases-loop-left g l = l.left
