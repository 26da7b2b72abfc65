use Rattle.std.proofs.Common.{ap, ◌∙◌, add-one, set, get_or}
use Rattle.revision_tree.specs.Nodes.{without_mark}
use Rattle.revision_tree.proofs.Marked.{one_cleared}
use Rattle.revision_tree.proofs.marks.clear.Goals as goal

pub loop-node-preserved : goal.loop-node-preserved
loop-node-preserved c =
    let olds = c.args.nodes.now in
    let i = c.loop-node.node-index in
    let d = c.node-item.result in
    rw add-one (ap (λ ns. set ns i (without_mark (get_or ns i d))) c.loop-node.invariant ∙ one_cleared without_mark olds i d c.loop-node-test.true)
