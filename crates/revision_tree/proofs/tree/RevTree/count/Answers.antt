use Rattle.std.proofs.Common.{◌∙◌, ap, sym, length}
use Rattle.std.specs.Prelude.{min}
use Rattle.std.proofs.Math.ListN.{length-map}
use Rattle.model.specs.Map.{entries}
use Rattle.model.specs.Tree.{Tree}
use Rattle.revision_tree.specs.Nodes.{entry_of}
use Rattle.revision_tree.specs.Rows.{nodes_of}
use Rattle.revision_tree.proofs.Listed.{entries-tree_of}
use Rattle.revision_tree.proofs.tree.RevTree.count.Goals as goal

pub returns : goal.returns
returns c =
    let ns = nodes_of c.self.inside.rows in
    c.count.ensures ∙ ap (λ n. min n 18446744073709551615) (sym (length-map ns entry_of) ∙ ap length (sym (entries-tree_of ns c.self.invariant.rows.nodes.sorted)) ∙ ap (λ (t : Tree). length (entries t)) c.self.view_is)
