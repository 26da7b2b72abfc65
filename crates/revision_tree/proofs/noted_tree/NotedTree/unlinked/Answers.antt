use Rattle.std.proofs.Common.{◌∙◌, ap, sym, subst}
use Rattle.model.specs.Tree.{Tree}
use Rattle.model.proofs.TreeLaws.{knows_child}
use Rattle.revision_runs.specs.Changes.{AreBefore, orphaned}
use Rattle.revision_runs.specs.TreeRuns.{IsOneChild}
use Rattle.revision_runs.proofs.Loosening.{leaf_of_same}
use Rattle.revision_runs.proofs.Steps.{IsForest-orphaned, orphaned_unlinked}
use Rattle.revision_tree.specs.Nodes.{tree_of}
use Rattle.revision_tree.specs.Notes.{IsNoted}
use Rattle.revision_tree.specs.Rows.{nodes_of}
use Rattle.revision_tree.proofs.Noting.{leaves_same}
use Rattle.revision_tree.proofs.Orphaned.{known_row, orphaned_nodes, orphaned_tree}
use Rattle.revision_tree.proofs.noted_tree.NotedTree.unlinked.Goals as goal

pub unlinked-requires : goal.unlinked-requires
unlinked-requires c =
    let t = tree_of (nodes_of c.self.inside.rows) in
    let h = c.self.invariant in
    let f = h.rows.nodes.tree.forest in
    let two = subst (λ (u : Tree). IsOneChild u c.args.fork c.args.child) (sym c.self.view_is) c.requires in
    (t, orphaned c.args.child t, record { before = f; after = IsForest-orphaned t c.args.child f c.args.fork two; runs = h.noted.runs }, orphaned_unlinked t c.args.child c.args.fork two.child, two)

pub without_parent-requires-clause-sorted : goal.without_parent-requires-clause-sorted
without_parent-requires-clause-sorted c = c.self.invariant.rows.nodes.sorted

pub without_parent-requires-clause-filled : goal.without_parent-requires-clause-filled
without_parent-requires-clause-filled c = c.self.invariant.rows.filled

pub without_parent-requires-clause-known : goal.without_parent-requires-clause-known
without_parent-requires-clause-known c =
    let ns = nodes_of c.self.inside.rows in
    let two = subst (λ (u : Tree). IsOneChild u c.args.fork c.args.child) (sym c.self.view_is) c.requires in
    known_row ns c.self.invariant.rows.nodes c.args.child (knows_child (tree_of ns) c.args.child c.args.fork two.child)

pub invariant_of-result : goal.invariant_of-result
invariant_of-result c =
    let ns = nodes_of c.self.inside.rows in
    let t = tree_of ns in
    let h = c.self.invariant in
    let f = h.rows.nodes.tree.forest in
    let two = subst (λ (u : Tree). IsOneChild u c.args.fork c.args.child) (sym c.self.view_is) c.requires in
    let before : AreBefore t (orphaned c.args.child t) c.self.inside.noted.runs = record { before = f; after = IsForest-orphaned t c.args.child f c.args.fork two; runs = h.noted.runs } in
    let made = nodes_of c.in_ok-left.left in
    record {
      rows = record { nodes = orphaned_nodes ns h.rows.nodes c.args.child c.args.fork two made c.in_ok-left.ensures.rows; filled = c.in_ok-left.ensures.filled };
      noted = subst (λ (u : Tree). IsNoted u (record { runs = c.in_ok-freed.freed; leaves = c.self.inside.noted.leaves })) (sym (orphaned_tree ns h.rows.nodes c.args.child c.args.fork two made c.in_ok-left.ensures.rows)) (record {
        runs = c.in_ok-freed.ensures t (orphaned c.args.child t) before (orphaned_unlinked t c.args.child c.args.fork two.child) two;
        leaves = leaves_same t (orphaned c.args.child t) (leaf_of_same t f c.args.child c.args.fork two) c.self.inside.noted.leaves.entries h.noted.leaves;
      });
    }

pub returns : goal.returns
returns c =
    let ns = nodes_of c.self.inside.rows in
    let two = subst (λ (u : Tree). IsOneChild u c.args.fork c.args.child) (sym c.self.view_is) c.requires in
    orphaned_tree ns c.self.invariant.rows.nodes c.args.child c.args.fork two (nodes_of c.in_ok-left.left) c.in_ok-left.ensures.rows ∙ ap (orphaned c.args.child) c.self.view_is
