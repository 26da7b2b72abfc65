use Rattle.std.proofs.Common.{◌≡◌, map, take}
use Rattle.revision_tree.specs.Bared.{bare_row}
use Rattle.revision_tree.specs.Nodes.{rows_of}
use Rattle.revision_tree.proofs.strip.are_bare.Given as goal

abbrev pub invariant-loop-node : goal.invariant-loop-node
invariant-loop-node l = map bare_row (rows_of (take l.node-index l.nodes)) ≡ rows_of (take l.node-index l.nodes)
