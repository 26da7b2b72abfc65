use Rattle.revision_tree.specs.Rows.{nodes_of}
use Rattle.revision_tree.proofs.Grafts.{uncons}
use Rattle.revision_tree.proofs.Ends.{first_known, first_oldest, node_knows}
use Rattle.revision_tree.proofs.whole.first.Goals as goal

pub returns-clause-known : goal.returns-clause-known
returns-clause-known c =
    let ns = nodes_of c.args.rows.now in
    let n = c.node-item.result in
    node_knows ns n c.requires.nodes.sorted (first_known ns c.first_piece.result.now c.first_piece.ensures.parts.0 _ n c.first_piece.ensures.parts.1 (uncons c.first_piece.result.now n c.in-len1-up.len_at_least c.node-item.is))

pub returns-clause-oldest : goal.returns-clause-oldest
returns-clause-oldest c =
    let ns = nodes_of c.args.rows.now in
    let n = c.node-item.result in
    first_oldest ns c.first_piece.result.now c.first_piece.ensures.parts.0 _ n c.requires.nodes.sorted c.first_piece.ensures.parts.1 (uncons c.first_piece.result.now n c.in-len1-up.len_at_least c.node-item.is)
