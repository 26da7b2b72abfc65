use Rattle.std.proofs.Common.{◌≡◌, length}
use Rattle.model.specs.History.{now}
use Rattle.model.specs.Compaction.{touched}
use Rattle.sessions.proofs.copying.catch_up_all.Given as goal

-- the copy has seen the version, of which so many are left
abbrev pub invariant-loop-left : goal.invariant-loop-left
invariant-loop-left g l = record {
  left : l.left ≡ length (touched (now l.version) l.copy.marks);
  sliced : l.copy.left ≡ 0;
  seen : l.copy.seen ≡ l.version;
}

abbrev pub decreases-loop-left : goal.decreases-loop-left
decreases-loop-left g l = l.left
