use Rattle.std.proofs.Common.{◌≡◌, map, take, drop, ◌++◌}
use Rattle.revision_tree.specs.Nodes.{without_mark}
use Rattle.revision_tree.proofs.marks.clear.Given as goal

abbrev pub invariant-loop-node : goal.invariant-loop-node
invariant-loop-node l = l.nodes ≡ map without_mark (take l.node-index l.initial.nodes) ++ drop l.node-index l.initial.nodes
