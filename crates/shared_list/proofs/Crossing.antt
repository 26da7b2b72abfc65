-- What may cross threads: a list, as its values may.
use denote.RattleType.{RattleType}
use denote.Param.Send.{IsSend, IsSync, sendable}
use Rattle.std.proofs.Crossing as std
use Rattle.shared_list.specs.contracts.list.SharedList as SharedList
use Rattle.shared_list.specs.contracts.spine.Spine as Spine
use Rattle.shared_list.specs.contracts.tree.Tree as Tree
use Rattle.shared_list.proofs.spine.Spine.TheLaws.TheKnot as spines
use Rattle.shared_list.proofs.tree.Tree.TheLaws.TheKnot as trees

module _ (T : RattleType) where
  tree-send : IsSend T → IsSync T → IsSend (Tree.the_row T)
  tree-send s y = search (std.crosses, trees.crosses, sendable) depth 60 fits 20000

  tree-sync : IsSend T → IsSync T → IsSync (Tree.the_row T)
  tree-sync s y = search (std.crosses, trees.crosses, sendable) depth 60 fits 20000

  spine-send : IsSend T → IsSync T → IsSend (Spine.the_row T)
  spine-send s y = search (tree-send, tree-sync, std.crosses, spines.crosses, sendable) depth 60 fits 20000

  spine-sync : IsSend T → IsSync T → IsSync (Spine.the_row T)
  spine-sync s y = search (tree-send, tree-sync, std.crosses, spines.crosses, sendable) depth 60 fits 20000

  pub list-send : IsSend T → IsSync T → IsSend (SharedList.the_row T)
  list-send s y = search (spine-send, sendable) depth 20

  pub list-sync : IsSend T → IsSync T → IsSync (SharedList.the_row T)
  list-sync s y = search (spine-sync, sendable) depth 20

pub ruleset crosses = (list-send, list-sync)
