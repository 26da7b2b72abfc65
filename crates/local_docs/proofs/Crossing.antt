-- What may cross threads: the local documents, as the bodies in them may.
use denote.Param.Send.{IsSend, IsSync, sendable}
use Rattle.cow_index.proofs.Crossing as maps
use Rattle.document_id.proofs.Crossing as ids
use Rattle.json_profile.proofs.Crossing as bodies
use Rattle.local_docs.specs.contracts.local.LocalDoc as LocalDoc
use Rattle.local_docs.specs.contracts.locals.Locals as Locals
use Rattle.std.proofs.Crossing as std

local-send : IsSend LocalDoc.the_row
local-send = search (bodies.crosses, std.crosses, sendable) depth 60

local-sync : IsSync LocalDoc.the_row
local-sync = search (bodies.crosses, std.crosses, sendable) depth 60

ruleset parts = (local-send, local-sync, maps.crosses, ids.crosses, std.crosses, sendable)

pub locals-send : IsSend Locals.the_row
locals-send = search parts depth 60

pub locals-sync : IsSync Locals.the_row
locals-sync = search parts depth 60

pub ruleset crosses = (locals-send, locals-sync)
