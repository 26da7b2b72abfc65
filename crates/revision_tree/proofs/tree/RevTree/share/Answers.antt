use Rattle.std.proofs.Common.{◌∙◌, sym, subst}
use Rattle.model.specs.Tree.{Tree}
use Rattle.revision_tree.specs.Nodes.{tree_of}
use Rattle.revision_tree.specs.Notes.{AreNotes}
use Rattle.revision_tree.specs.Rows.{nodes_of}
use Rattle.revision_tree.proofs.Grafts.{same_tree_of, nodes_alike}
use Rattle.revision_tree.proofs.tree.RevTree.share.Goals as goal

pub invariant_of-result : goal.invariant_of-result
invariant_of-result c =
    let made = nodes_of c.in_ok-rows.rows in
    let ns = nodes_of c.self.inside.rows in
    record {
      rows = record { nodes = nodes_alike made ns c.in_ok-rows.ensures.nodes c.self.invariant.rows.nodes; filled = c.in_ok-rows.ensures.filled c.self.invariant.rows.filled };
      notes = subst (λ (t : Tree). AreNotes t c.in_ok-notes.notes) (sym (same_tree_of made ns c.in_ok-rows.ensures.nodes)) (c.in_ok-notes.ensures (tree_of ns) c.self.invariant.notes);
    }

pub returns : goal.returns
returns c = same_tree_of (nodes_of c.in_ok-rows.rows) (nodes_of c.self.inside.rows) c.in_ok-rows.ensures.nodes ∙ c.self.view_is
