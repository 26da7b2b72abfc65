-- What may cross threads: a version, as what is kept in its maps may.
use denote.Param.Send.{IsSend, IsSync, sendable}
use Rattle.commands.proofs.Crossing as commands
use Rattle.cow_index.proofs.Crossing as maps
use Rattle.document_id.proofs.Crossing as ids
use Rattle.local_docs.proofs.Crossing as locals
use Rattle.purge.proofs.Crossing as purges
use Rattle.revision_tree.proofs.Crossing as trees
use Rattle.shared_list.proofs.Crossing as lists
use Rattle.snapshots.specs.contracts.base.Base as Base
use Rattle.snapshots.specs.contracts.database.Database as Database
use Rattle.snapshots.specs.contracts.record.Record as Record
use Rattle.snapshots.specs.contracts.records.Records as Records
use Rattle.snapshots.specs.contracts.version.Version as Version
use Rattle.std.proofs.Crossing as std

record-send : IsSend Record.the_row
record-send = search (trees.crosses, sendable) depth 60

record-sync : IsSync Record.the_row
record-sync = search (trees.crosses, sendable) depth 60

ruleset parts = (record-send, record-sync, maps.crosses, ids.crosses, std.crosses, sendable)

records-send : IsSend Records.the_row
records-send = search parts depth 60

records-sync : IsSync Records.the_row
records-sync = search parts depth 60

database-send : IsSend Database.the_row
database-send = search (records-send, locals.crosses, purges.crosses, maps.crosses, std.crosses, sendable) depth 60

database-sync : IsSync Database.the_row
database-sync = search (records-sync, locals.crosses, purges.crosses, maps.crosses, std.crosses, sendable) depth 60

base-send : IsSend Base.the_row
base-send = search (database-send, database-sync, std.crosses, sendable) depth 60

base-sync : IsSync Base.the_row
base-sync = search (database-send, database-sync, std.crosses, sendable) depth 60

pub version-send : IsSend Version.the_row
version-send = search (base-send, database-send, commands.crosses, lists.crosses, std.crosses, sendable) depth 60

pub version-sync : IsSync Version.the_row
version-sync = search (base-sync, database-sync, commands.crosses, lists.crosses, std.crosses, sendable) depth 60

-- for a search: what crosses, with Rust's own types
pub ruleset crosses = (version-send, version-sync, std.crosses, sendable)
