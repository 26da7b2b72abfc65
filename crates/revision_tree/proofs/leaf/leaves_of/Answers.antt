use Rattle.std.proofs.Common.{◌++◌, ap, ◌∙◌}
use Rattle.std.specs.Prelude.{true, false}
use Rattle.revision_tree.specs.Rows.{nodes_of}
use Rattle.revision_tree.proofs.Ranked.{revs_of_leaves, revs_half}
use Rattle.revision_tree.proofs.leaf.leaves_of.Goals as goal

pub returns : goal.returns
returns c =
    let ns = nodes_of c.args.rows.now in
    c.in_ok-add_marked-2.ensures ∙ ap (λ xs. xs ++ revs_half true ns) (c.in_ok-add_marked.ensures ∙ ap (λ xs. xs ++ revs_half false ns) c.new-leaves.ensures.items)
    ∙ revs_of_leaves ns c.requires.nodes
