use Rattle.std.proofs.Common.{◌∙◌, sym, ap, subst}
use Rattle.std.specs.Prelude.{unwrap_or, option_copied}
use Rattle.model.specs.Map.{empty}
use Rattle.model.specs.Tree.{IsInRange}
use Rattle.revision_tree.specs.Rows.{nodes_of}
use Rattle.revision_tree.proofs.Grafts.{ground_alike, same_tree_of, ground_if_ok}
use Rattle.revision_tree.proofs.Grown.{ground_of}
use Rattle.revision_tree.proofs.tree.ground.Goals as goal

pub returns-in-Some-clause-ground : goal.returns-in-Some-clause-ground
returns-in-Some-clause-ground c =
    let ns = nodes_of c.tree.inside.rows in
    ground_if_ok c.share.result (λ r e. ground_alike (nodes_of r) ns e (ground_of ns c.tree.invariant.rows.nodes)) c.share.ensures.nodes

pub returns-in-Some-clause-tree : goal.returns-in-Some-clause-tree
returns-in-Some-clause-tree c =
    let ns = nodes_of c.tree.inside.rows in
    ground_if_ok c.share.result (λ r e. same_tree_of (nodes_of r) ns e ∙ c.tree.view_is ∙ ap (λ o. unwrap_or (option_copied o) empty) (sym c.in-Some.is)) c.share.ensures.nodes

pub returns-in-Some-clause-range : goal.returns-in-Some-clause-range
returns-in-Some-clause-range c =
    let ns = nodes_of c.tree.inside.rows in
    ground_if_ok c.share.result (λ r e. subst IsInRange (sym (same_tree_of (nodes_of r) ns e)) c.tree.invariant.rows.nodes.range) c.share.ensures.nodes
