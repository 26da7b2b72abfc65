use Rattle.std.proofs.Common.{arith, length-append}
use Rattle.cow_index.proofs.Heights.{dense_node}
use Rattle.cow_index.proofs.nodes.NodeMaker.node.Goals as goal

pub returns-clause-level : goal.returns-clause-level
returns-clause-level g c = λ level.
    let dense = dense_node _ _ _ _ level c.height.ensures.dense c.height-2.ensures.dense in
    rw c.in_ok-node.ensures.ok (record {
      sides = level;
      dense = grind (arith, length-append, dense);
    })
