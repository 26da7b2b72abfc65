-- So far the purges that were walked over are taken over and passed.
use Rattle.std.proofs.Common.{◌≡◌, ◌+◌, map, length}
use Rattle.std.specs.Map.Iter.{deref_pair}
use Rattle.model.specs.History.{now}
use Rattle.model.specs.Compaction.{of_purge, passed, touched_id}
use Rattle.purge.specs.Log.{info_of}
use Rattle.snapshots.specs.Taken.{taken_all, IsCoherent}
use Rattle.compactor.proofs.taking.taken_purged.Given as goal

abbrev pub invariant-loop-number : goal.invariant-loop-number
invariant-loop-number l = record {
  taken : l.records ≡ record l.fn.taken.records { docs = taken_all l.fn.taken.records.docs (now l.version) (map touched_id (map of_purge (map info_of (map deref_pair l.yielded)))) };
  marks : record { update = l.fn.taken.update_mark; purge = l.purge_mark } ≡ passed (record { update = l.fn.taken.update_mark; purge = l.fn.taken.purge_mark }) (map of_purge (map info_of (map deref_pair l.yielded)));
  coherent : IsCoherent l.records.docs (now l.version);
  visits : l.visited ≡ l.initial.visited + length l.yielded;
}
