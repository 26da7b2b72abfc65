use Rattle.std.proofs.Common.{All, arith, subst}
use Rattle.std.proofs.lemmas.List.{take_all}
use Rattle.std.proofs.lemmas.List.Elements.{All-more}
use Rattle.revision_tree.specs.Decided.{IsNode}
use Rattle.revision_tree.proofs.decide.recall_all.Goals as goal

pub loop-node-preserved : goal.loop-node-preserved
loop-node-preserved c = All-more IsNode c.args.nodes.now c.loop-node.node-index c.node-item.result (omega arith) c.loop-node.invariant (subst IsNode c.node-item.is c.recall_one.ensures)

pub returns : goal.returns
returns c = subst (All IsNode) (take_all c.loop-node.node-index c.args.nodes.now (omega arith)) c.loop-node.invariant
