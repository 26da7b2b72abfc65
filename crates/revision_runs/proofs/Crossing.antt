-- What may cross threads: the runs of a tree.
use denote.Param.Send.{IsSend, IsSync, sendable}
use Rattle.cow_index.proofs.Crossing as maps
use Rattle.revision_runs.specs.contracts.deep.Deep as Deep
use Rattle.revision_runs.specs.contracts.foot.Foot as Foot
use Rattle.revision_runs.specs.contracts.hung.Hung as Hung
use Rattle.revision_runs.specs.contracts.run.Run as Run
use Rattle.revision_runs.specs.contracts.runs.Runs as Runs
use Rattle.std.proofs.Crossing as std

run-send : IsSend Run.the_row
run-send = search (std.crosses, sendable) depth 60

run-sync : IsSync Run.the_row
run-sync = search (std.crosses, sendable) depth 60

foot-send : IsSend Foot.the_row
foot-send = search (std.crosses, sendable) depth 60

foot-sync : IsSync Foot.the_row
foot-sync = search (std.crosses, sendable) depth 60

hung-send : IsSend Hung.the_row
hung-send = search (std.crosses, sendable) depth 60

hung-sync : IsSync Hung.the_row
hung-sync = search (std.crosses, sendable) depth 60

deep-send : IsSend Deep.the_row
deep-send = search (std.crosses, sendable) depth 60

deep-sync : IsSync Deep.the_row
deep-sync = search (std.crosses, sendable) depth 60

ruleset parts = (run-send, run-sync, foot-send, foot-sync, hung-send, hung-sync, deep-send, deep-sync, maps.crosses, std.crosses, sendable)

pub runs-send : IsSend Runs.the_row
runs-send = search parts depth 60 fits 20000

pub runs-sync : IsSync Runs.the_row
runs-sync = search parts depth 60 fits 20000

pub ruleset crosses = (runs-send, runs-sync)
