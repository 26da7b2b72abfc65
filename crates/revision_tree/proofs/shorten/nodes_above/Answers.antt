use Rattle.revision_tree.specs.Nodes.{rows_of}
use Rattle.revision_tree.proofs.Shortened.{nodes_more}
use Rattle.revision_tree.proofs.shorten.nodes_above.Goals as goal

pub loop-node-preserved : goal.loop-node-preserved
loop-node-preserved c = nodes_more c.args.generation c.args.nodes.now c.loop-node.node-index c.node-item.result (rows_of c.loop-node.above.items) (rows_of c.add_node.new.above.items) c.loop-node-test.true c.node-item.is c.loop-node.invariant c.in_ok-add_node.ensures
