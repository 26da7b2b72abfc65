-- So far the look-ups of the ids.
use Rattle.std.proofs.Common.{◌≡◌, map}
use Rattle.std.specs.Map.Iter.{deref}
use Rattle.snapshots.specs.Listing.{database_of}
use Rattle.snapshots.proofs.LookUps.{look_up}
use Rattle.snapshots.proofs.records.Records.look_ups.Given as goal

abbrev pub invariant-loop-id : goal.invariant-loop-id
invariant-loop-id l = l.look_ups.items ≡ map (look_up (database_of l.self)) (map deref l.yielded)
