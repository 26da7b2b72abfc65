use Rattle.std.proofs.Common.{◌∙◌, ap, sym, subst}
use Rattle.model.specs.Tree.{Tree, has_child}
use Rattle.model.specs.TreeChange.{strip}
use Rattle.model.proofs.StripLaws.{IsTree-strip, IsInRange-strip}
use Rattle.revision_tree.specs.Nodes.{tree_of}
use Rattle.revision_tree.specs.Notes.{AreNotes}
use Rattle.revision_tree.specs.Rows.{nodes_of}
use Rattle.revision_tree.proofs.Grown.{nodes_marked, tree_marked}
use Rattle.revision_tree.proofs.Noting.{notes_stripped}
use Rattle.revision_tree.proofs.Stripped.{stripped_rows, stripped_marks}
use Rattle.revision_tree.proofs.tree.RevTree.stripped.Goals as goal

pub invariant_of-result : goal.invariant_of-result
invariant_of-result c =
    let ns = nodes_of c.self.inside.rows in
    let t = tree_of ns in
    let made = nodes_of c.in_ok-rows.rows in
    let is = stripped_rows ns made c.self.invariant.rows.nodes c.in_ok-rows.ensures.rows in
    record {
      rows = record {
        nodes = nodes_marked made (strip t) (has_child t) is (stripped_marks t) (IsTree-strip t c.self.invariant.rows.nodes.tree) (IsInRange-strip t c.self.invariant.rows.nodes.range);
        filled = c.in_ok-rows.ensures.filled;
      };
      notes = subst (λ (u : Tree). AreNotes u c.in_ok-notes.notes) (sym (tree_marked made (strip t) (has_child t) is)) (notes_stripped t c.in_ok-notes.notes (c.in_ok-notes.ensures t c.self.invariant.notes));
    }

pub returns : goal.returns
returns c =
    let ns = nodes_of c.self.inside.rows in
    let made = nodes_of c.in_ok-rows.rows in
    tree_marked made (strip (tree_of ns)) (has_child (tree_of ns)) (stripped_rows ns made c.self.invariant.rows.nodes c.in_ok-rows.ensures.rows) ∙ ap strip c.self.view_is
