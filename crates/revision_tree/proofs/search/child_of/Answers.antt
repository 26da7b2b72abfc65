use Rattle.std.proofs.Common.{◌∙◌, ap, sym}
use Rattle.model.specs.Tree.{is_at, parent_of}
use Rattle.model.proofs.TreeLaws.{is_at-equal}
use Rattle.revision_tree.specs.Nodes.{tree_of}
use Rattle.revision_tree.specs.Rows.{nodes_of}
use Rattle.revision_tree.proofs.search.child_of.Goals as goal

pub returns-then-has_parent : goal.returns-then-has_parent
returns-then-has_parent c =
    (is_at-equal (parent_of (tree_of (nodes_of c.args.rows.now)) c.in-Some.child) c.args.rev).0
    (ap (λ o. is_at o c.args.rev) (sym c.parent_in.ensures) ∙ sym c.has_parent.ensures ∙ c.if-has_parent.true)
