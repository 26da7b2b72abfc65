use Rattle.std.proofs.Common.{◌≡◌, ◌∙◌, ℕ, None, ap, sym, subst}
use Rattle.model.specs.Revision.{Rev}
use Rattle.model.specs.Tree.{Tree, parent_of}
use Rattle.model.specs.TreeChange.{restrict}
use Rattle.revision_runs.specs.Changes.{AreBefore}
use Rattle.revision_runs.specs.TreeRuns.{IsOnlyChild, IsWay}
use Rattle.revision_tree.specs.Nodes.{tree_of}
use Rattle.revision_tree.specs.Notes.{IsNoted}
use Rattle.revision_tree.specs.Rows.{nodes_of}
use Rattle.revision_tree.specs.Trimmed.{is_other}
use Rattle.revision_tree.proofs.Noting.{leaves_same}
use Rattle.revision_tree.proofs.Rootless.{only_listed, rootless_dropped, rootless_forest, rootless_leaf, rootless_nodes, rootless_tree}
use Rattle.revision_tree.proofs.noted_tree.NotedTree.dropped.Goals as goal

abbrev HasChildAbove : Rev → Rev → Tree → Type 0
HasChildAbove root bottom t = (child : Rev) × (n : ℕ) × IsOnlyChild t root child × IsWay t n bottom child

pub only_child-child-requires-clause-rows : goal.only_child-child-requires-clause-rows
only_child-child-requires-clause-rows c = c.self.invariant.rows

pub only_child-child-requires-clause-way : goal.only_child-child-requires-clause-way
only_child-child-requires-clause-way c = subst (HasChildAbove c.args.root c.args.bottom) (sym c.self.view_is) c.requires.child

pub dropped-requires : goal.dropped-requires
dropped-requires c =
    let ns = nodes_of c.self.inside.rows in
    let t = tree_of ns in
    let h = c.self.invariant in
    let root = subst (λ (u : Tree). parent_of u c.args.root ≡ None) (sym c.self.view_is) c.requires.root in
    let only = c.only_child-child.ensures in
    let child = c.only_child-child.result in
    (t, restrict (is_other c.args.root) t, record { before = h.rows.nodes.tree.forest; after = rootless_forest ns h.rows.nodes c.args.root child root only; runs = h.noted.runs }, rootless_dropped ns h.rows.nodes c.args.root child root only, only)

pub without-requires-clause-rows : goal.without-requires-clause-rows
without-requires-clause-rows c = c.self.invariant.rows

pub without-requires-clause-child : goal.without-requires-clause-child
without-requires-clause-child c =
    let ns = nodes_of c.self.inside.rows in
    let root = subst (λ (u : Tree). parent_of u c.args.root ≡ None) (sym c.self.view_is) c.requires.root in
    only_listed ns c.self.invariant.rows.nodes c.args.root c.only_child-child.result root c.only_child-child.ensures

pub invariant_of-result : goal.invariant_of-result
invariant_of-result c =
    let ns = nodes_of c.self.inside.rows in
    let t = tree_of ns in
    let h = c.self.invariant in
    let root = subst (λ (u : Tree). parent_of u c.args.root ≡ None) (sym c.self.view_is) c.requires.root in
    let only = c.only_child-child.ensures in
    let child = c.only_child-child.result in
    let u = restrict (is_other c.args.root) t in
    let before : AreBefore t u c.self.inside.noted.runs = record { before = h.rows.nodes.tree.forest; after = rootless_forest ns h.rows.nodes c.args.root child root only; runs = h.noted.runs } in
    let made = nodes_of c.in_ok-left.left in
    record {
      rows = record { nodes = rootless_nodes ns h.rows.nodes c.args.root child root only made c.in_ok-left.ensures.rows; filled = c.in_ok-left.ensures.filled };
      noted = subst (λ (v : Tree). IsNoted v (record { runs = c.in_ok-others.others; leaves = c.self.inside.noted.leaves })) (sym (rootless_tree ns h.rows.nodes c.args.root child root only made c.in_ok-left.ensures.rows)) (record {
        runs = c.in_ok-others.ensures t u before (rootless_dropped ns h.rows.nodes c.args.root child root only) only;
        leaves = leaves_same t u (rootless_leaf ns h.rows.nodes c.args.root child root only) c.self.inside.noted.leaves.entries h.noted.leaves;
      });
    }

pub returns : goal.returns
returns c =
    let ns = nodes_of c.self.inside.rows in
    let root = subst (λ (u : Tree). parent_of u c.args.root ≡ None) (sym c.self.view_is) c.requires.root in
    rootless_tree ns c.self.invariant.rows.nodes c.args.root c.only_child-child.result root c.only_child-child.ensures (nodes_of c.in_ok-left.left) c.in_ok-left.ensures.rows ∙ ap (restrict (is_other c.args.root)) c.self.view_is
