use Rattle.revision_tree.specs.Nodes.{rows_of}
use Rattle.revision_tree.specs.Trimmed.{row_without}
use Rattle.revision_tree.proofs.Trimmed.{nodes_next}
use Rattle.revision_tree.proofs.trim.nodes_without.Goals as goal

pub loop-node-preserved : goal.loop-node-preserved
loop-node-preserved c = nodes_next (row_without c.args.rev) c.args.nodes.now c.loop-node.node-index c.node-item.result (rows_of c.loop-node.left.items) (rows_of c.add_node.new.left.items) c.loop-node-test.true c.node-item.is c.loop-node.invariant c.in_ok-add_node.ensures
