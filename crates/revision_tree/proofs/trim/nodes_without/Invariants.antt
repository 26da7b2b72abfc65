use Rattle.std.proofs.Common.{◌≡◌, take}
use Rattle.std.specs.List.{filter_map}
use Rattle.revision_tree.specs.Nodes.{rows_of}
use Rattle.revision_tree.specs.Trimmed.{row_without}
use Rattle.revision_tree.proofs.trim.nodes_without.Given as goal

abbrev pub invariant-loop-node : goal.invariant-loop-node
invariant-loop-node l = rows_of l.left.items ≡ filter_map (row_without l.rev) (rows_of (take l.node-index l.nodes))
