use Rattle.revision_tree.specs.Rows.{nodes_of}
use Rattle.revision_tree.proofs.Ends.{last_known, last_newest, last_part, node_knows}
use Rattle.revision_tree.proofs.whole.last.Goals as goal

pub returns-clause-known : goal.returns-clause-known
returns-clause-known c =
    let ns = nodes_of c.args.rows.now in
    let n = c.node-item.result in
    node_knows ns n c.requires.nodes.sorted (last_known ns c.last_piece.ensures.parts.0 c.last_piece.result.now _ n c.last_piece.ensures.parts.1 (last_part c.last_piece.result.now n c.in-len1-up.len_at_least c.node-item.is))

pub returns-clause-newest : goal.returns-clause-newest
returns-clause-newest c =
    let ns = nodes_of c.args.rows.now in
    let n = c.node-item.result in
    last_newest ns c.last_piece.ensures.parts.0 c.last_piece.result.now _ n c.requires.nodes.sorted c.last_piece.ensures.parts.1 (last_part c.last_piece.result.now n c.in-len1-up.len_at_least c.node-item.is)
