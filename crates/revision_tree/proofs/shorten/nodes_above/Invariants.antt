use Rattle.std.proofs.Common.{◌≡◌, take}
use Rattle.std.specs.List.{filter_map}
use Rattle.revision_tree.specs.Nodes.{rows_of}
use Rattle.revision_tree.specs.Shortened.{row_above}
use Rattle.revision_tree.proofs.shorten.nodes_above.Given as goal

abbrev pub invariant-loop-node : goal.invariant-loop-node
invariant-loop-node l = rows_of l.above.items ≡ filter_map (row_above l.generation) (rows_of (take l.node-index l.nodes))
