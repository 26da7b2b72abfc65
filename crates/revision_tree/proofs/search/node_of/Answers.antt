use Rattle.std.proofs.Common.{◌∙◌, ap, sym}
use Rattle.std.specs.Prelude.{option_map}
use Rattle.std.specs.FinMap.Entries.{find}
use Rattle.model.specs.Revision.{rev_cmp}
use Rattle.revision_tree.specs.Nodes.{row_of}
use Rattle.revision_tree.specs.Rows.{nodes_of}
use Rattle.revision_tree.proofs.Listed.{entries-tree_of}
use Rattle.revision_tree.proofs.Rowed.{values_of, found_entry}
use Rattle.revision_tree.proofs.search.node_of.Goals as goal

pub returns-clause-found : goal.returns-clause-found
returns-clause-found c =
    let ns = nodes_of c.args.rows.now in
    values_of (λ n. (row_of n.now).1) c.among.result ∙ ap (option_map (λ v. v.0)) c.among.ensures.found ∙ found_entry ns c.args.rev ∙ ap (find rev_cmp c.args.rev) (sym (entries-tree_of ns c.requires.nodes.sorted))
