-- So far the purges of the first documents, answered as the database stood before.
use Rattle.std.proofs.Common.{◌≡◌, ◌+◌, ◌-◌, ◌<◌, length, map, take}
use Rattle.model.specs.Database.{after_purges}
use Rattle.snapshots.proofs.Purges.{answered}
use Rattle.snapshots.proofs.database.Database.purge_all.Given as goal

abbrev pub invariant-loop-document : goal.invariant-loop-document
invariant-loop-document l = record {
  after : l.self ≡ after_purges l.initial.self (take l.document-index l.documents);
  replies : l.removed.items ≡ map (answered l.initial.self) (take l.document-index l.documents);
  room : l.self.update_seq + (length l.documents - l.document-index) < 18446744073709551615;
  log_room : l.self.purges.purge_seq + (length l.documents - l.document-index) < 18446744073709551615;
}
