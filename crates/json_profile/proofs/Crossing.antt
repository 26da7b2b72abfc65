-- What may cross threads: a body, as the text that it keeps.
use denote.Param.Send.{IsSend, IsSync, sendable}
use Rattle.json_profile.specs.contracts.body.Body as Body
use Rattle.std.proofs.Crossing as std
use Rattle.std.proofs.MapsCrossing as maps

pub body-send : IsSend Body.the_row
body-send = search (maps.crosses, std.crosses, sendable) depth 60 fits 20000

pub body-sync : IsSync Body.the_row
body-sync = search (maps.crosses, std.crosses, sendable) depth 60 fits 20000

pub ruleset crosses = (body-send, body-sync)
