use Rattle.std.proofs.Common.{◌≡◌, subst}
use Rattle.std.specs.Prelude.{IfSome}
use Rattle.model.specs.Tree.{Tree}
use Rattle.model.specs.TreeChange.{stem}
use Rattle.revision_tree.specs.Nodes.{tree_of}
use Rattle.revision_tree.specs.Rows.{nodes_of}
use Rattle.revision_tree.specs.Stems.{IsDue}
use Rattle.revision_tree.proofs.Noting.{due_some, none_due}
use Rattle.revision_tree.proofs.noted_tree.NotedTree.due.Goals as goal

pub returns-clause-due : goal.returns-clause-due
returns-clause-due c =
    let t = tree_of (nodes_of c.self.inside.rows) in
    let h = c.self.invariant in
    subst (λ (u : Tree). IfSome c.due_top.result (λ top. IsDue c.args.limit u top)) c.self.view_is
    (due_some t h.rows.nodes.tree.forest h.rows.nodes.range c.self.inside.noted.runs h.noted.runs c.args.limit c.due_top.result c.due_top.ensures.some)

pub returns-clause-none : goal.returns-clause-none
returns-clause-none c = λ e.
    let t = tree_of (nodes_of c.self.inside.rows) in
    let h = c.self.invariant in
    subst (λ (u : Tree). stem c.args.limit u ≡ u) c.self.view_is
    (none_due t h.rows.nodes.tree.forest h.rows.nodes.range c.self.inside.noted.runs h.noted.runs c.args.limit (c.due_top.ensures.none e))
