use Rattle.std.proofs.Common.{◌≡◌, length}
use Rattle.model.specs.Lists.{last_few}
use Rattle.model.specs.PurgeLog.{AreNumbered}
use Rattle.purge.specs.Log.{infos_of}
use Rattle.purge.proofs.newest.without_older.Given as goal

abbrev pub invariant-loop-kept : goal.invariant-loop-kept
invariant-loop-kept l = record {
  numbered : AreNumbered l.purge_seq (infos_of l.kept.entries);
  newest : last_few l.limit l.kept.entries ≡ last_few l.limit l.fn.all.entries;
}

abbrev pub decreases-loop-kept : goal.decreases-loop-kept
decreases-loop-kept l = length l.kept.entries
