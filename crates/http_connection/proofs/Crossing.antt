-- What may cross threads: a window.
use denote.Param.Send.{IsSend, IsSync, sendable}
use Rattle.http_connection.specs.contracts.window.Window as Window
use Rattle.std.proofs.Crossing as std

pub window-send : IsSend Window.the_row
window-send = search (std.crosses, sendable) depth 60

pub window-sync : IsSync Window.the_row
window-sync = search (std.crosses, sendable) depth 60

pub ruleset crosses = (window-send, window-sync)
