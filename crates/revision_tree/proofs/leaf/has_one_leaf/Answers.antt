use Rattle.revision_tree.proofs.Ends.{last_part}
use Rattle.revision_tree.proofs.Kept.{only_last}
use Rattle.revision_tree.proofs.leaf.has_one_leaf.Goals as goal

pub returns : goal.returns
returns c = λ e.
    let n = c._newest-item.result in
    (n.rev, only_last c.args.nodes.now _ n (last_part c.args.nodes.now n c.in-len1-up.len_at_least c._newest-item.is) (c.are_inner.ensures e))
