-- So far each is.
use Rattle.std.proofs.Common.{All, take}
use Rattle.revision_tree.specs.Decided.{IsNode}
use Rattle.revision_tree.proofs.decide.recall_all.Given as goal

abbrev pub invariant-loop-node : goal.invariant-loop-node
invariant-loop-node l = All IsNode (take l.node-index l.nodes)
