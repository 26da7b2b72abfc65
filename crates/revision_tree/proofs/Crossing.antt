-- What may cross threads: a tree, as the bodies in it and what is noted of it may.
use denote.Param.Send.{IsSend, IsSync, sendable}
use Rattle.cow_index.proofs.Crossing as maps
use Rattle.json_profile.proofs.Crossing as bodies
use Rattle.revision_runs.proofs.Crossing as runs
use Rattle.revision_tree.specs.contracts.noted.Noted as Noted
use Rattle.revision_tree.specs.contracts.rank.Rank as Rank
use Rattle.revision_tree.specs.contracts.tree.RevTree as RevTree
use Rattle.std.proofs.Crossing as std

rank-send : IsSend Rank.the_row
rank-send = search (std.crosses, sendable) depth 60

rank-sync : IsSync Rank.the_row
rank-sync = search (std.crosses, sendable) depth 60

noted-send : IsSend Noted.the_row
noted-send = search (rank-send, rank-sync, maps.crosses, runs.crosses, std.crosses, sendable) depth 60 fits 20000

noted-sync : IsSync Noted.the_row
noted-sync = search (rank-send, rank-sync, maps.crosses, runs.crosses, std.crosses, sendable) depth 60 fits 20000

ruleset parts = (noted-send, noted-sync, bodies.crosses, std.crosses, sendable)

pub tree-send : IsSend RevTree.the_row
tree-send = search parts depth 60 fits 20000

pub tree-sync : IsSync RevTree.the_row
tree-sync = search parts depth 60 fits 20000

pub ruleset crosses = (tree-send, tree-sync)
