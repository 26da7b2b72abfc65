-- So far each is.
use Rattle.std.proofs.Common.{All, take}
use Rattle.revision_tree.specs.Decided.{IsRooted}
use Rattle.revision_tree.specs.Nodes.{tree_of}
use Rattle.revision_tree.proofs.decide.are_rooted.Given as goal

abbrev pub invariant-loop-node : goal.invariant-loop-node
invariant-loop-node l = All (IsRooted (tree_of l.nodes)) (take l.node-index l.nodes)
