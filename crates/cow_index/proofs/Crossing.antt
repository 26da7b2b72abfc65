-- What may cross threads: a map, as its keys and values may.
use denote.RattleType.{RattleType}
use denote.Param.Send.{IsSend, IsSync, sendable}
use Rattle.std.specs.declared.cmp.Ord as Ord
use Rattle.std.specs.declared.cmp.PartialEq as PartialEq
use Rattle.std.specs.declared.cmp.PartialOrd as PartialOrd
use Rattle.std.proofs.Crossing as std
use Rattle.cow_index.specs.contracts.map.CowMap as CowMap
use Rattle.cow_index.specs.contracts.root.Root as Root
use Rattle.cow_index.specs.contracts.tree.Tree as Tree
use Rattle.cow_index.proofs.tree.Tree.TheLaws.TheKnot as TheKnot

module _ (K V : RattleType) where
  tree-send : IsSend K → IsSync K → IsSend V → IsSync V → IsSend (Tree.the_row K V)
  tree-send sk yk sv yv = search (std.crosses, TheKnot.crosses, sendable) depth 60 fits 20000

  tree-sync : IsSend K → IsSync K → IsSend V → IsSync V → IsSync (Tree.the_row K V)
  tree-sync sk yk sv yv = search (std.crosses, TheKnot.crosses, sendable) depth 60 fits 20000

  root-send : IsSend K → IsSync K → IsSend V → IsSync V → IsSend (Root.the_row K V)
  root-send sk yk sv yv = search (tree-send, std.crosses, TheKnot.crosses, sendable) depth 60 fits 20000

  root-sync : IsSend K → IsSync K → IsSend V → IsSync V → IsSync (Root.the_row K V)
  root-sync sk yk sv yv = search (tree-sync, std.crosses, TheKnot.crosses, sendable) depth 60 fits 20000

  module _ (o : Ord.Ghosts K.Denot) (e : PartialEq.Ghosts K.Denot) (p : PartialOrd.Ghosts K.Denot) where
    pub map-send : IsSend K → IsSync K → IsSend V → IsSync V → IsSend (CowMap.the_row K V o e p)
    map-send sk yk sv yv = search (root-send, sendable) depth 20

    pub map-sync : IsSend K → IsSync K → IsSend V → IsSync V → IsSync (CowMap.the_row K V o e p)
    map-sync sk yk sv yv = search (root-sync, sendable) depth 20

pub ruleset crosses = (map-send, map-sync)
