-- so far the changes of the documents that were looked at
use Rattle.std.proofs.Common.{◌≡◌, take}
use Rattle.snapshots.specs.Listing.{database_of}
use Rattle.snapshots.proofs.LookUps.{changed_of}
use Rattle.snapshots.proofs.records.Records.looked_up.Given as goal

abbrev pub invariant-loop-look_up : goal.invariant-loop-look_up
invariant-loop-look_up l = l.changed.entries ≡ changed_of (database_of l.self) l.since (take l.look_up-index l.ids)
