-- What may cross threads: the log of purges.
use denote.Param.Send.{IsSend, IsSync, sendable}
use Rattle.cow_index.proofs.Crossing as maps
use Rattle.document_id.proofs.Crossing as ids
use Rattle.purge.specs.contracts.log.PurgeLog as PurgeLog
use Rattle.purge.specs.contracts.purged.Purged as Purged
use Rattle.std.proofs.Crossing as std

purged-send : IsSend Purged.the_row
purged-send = search (ids.crosses, std.crosses, sendable) depth 60

purged-sync : IsSync Purged.the_row
purged-sync = search (ids.crosses, std.crosses, sendable) depth 60

ruleset parts = (purged-send, purged-sync, maps.crosses, std.crosses, sendable)

pub log-send : IsSend PurgeLog.the_row
log-send = search parts depth 60

pub log-sync : IsSync PurgeLog.the_row
log-sync = search parts depth 60

pub ruleset crosses = (log-send, log-sync)
