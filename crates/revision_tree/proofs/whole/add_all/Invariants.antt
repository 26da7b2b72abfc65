use Rattle.std.proofs.Common.{◌≡◌, ◌++◌, take}
use Rattle.revision_tree.specs.Nodes.{rows_of}
use Rattle.revision_tree.proofs.whole.add_all.Given as goal

abbrev pub invariant-loop-node : goal.invariant-loop-node
invariant-loop-node l = rows_of l.nodes.items ≡ rows_of l.initial.nodes.items ++ rows_of (take l.node-index l.others)
