-- What may cross threads: an identity.
use denote.Param.Send.{IsSend, IsSync, sendable}
use Rattle.document_id.specs.contracts.id.DocId as DocId
use Rattle.std.proofs.Crossing as std

pub id-send : IsSend DocId.the_row
id-send = search (std.crosses, sendable) depth 60

pub id-sync : IsSync DocId.the_row
id-sync = search (std.crosses, sendable) depth 60

pub ruleset crosses = (id-send, id-sync)
