use Rattle.std.proofs.Common.{sym, subst}
use Rattle.model.specs.Revision.{Rev}
use Rattle.revision_runs.specs.Changes.{IsPartOf}
use Rattle.revision_runs.specs.TreeRuns.{IsOnlyChild}
use Rattle.revision_tree.specs.Nodes.{tree_of}
use Rattle.revision_tree.specs.Rows.{nodes_of}
use Rattle.revision_tree.proofs.noted_tree.only_child.Goals as goal

pub returns-in-Some : goal.returns-in-Some
returns-in-Some c =
    let t = tree_of (nodes_of c.args.rows.now) in
    let w = c.requires.way in
    subst (λ (q : Rev). IsOnlyChild t c.args.rev q) (sym (w.2.only c.in-Some.child c.in-Some.ensures)) w.2

pub child_below-requires-clause-way : goal.child_below-requires-clause-way
child_below-requires-clause-way c =
    let t = tree_of (nodes_of c.args.rows.now) in
    let w = c.requires.way in
    let part : IsPartOf t t = record { parents = λ q p e. e } in
    (t, w.0, w.1, c.requires.rows.nodes.tree.forest, w.2, w.3, part)

pub returns : goal.returns
returns c =
    let t = tree_of (nodes_of c.args.rows.now) in
    let w = c.requires.way in
    let part : IsPartOf t t = record { parents = λ q p e. e } in
    subst (λ (q : Rev). IsOnlyChild t c.args.rev q) (sym (c.child_below.ensures t w.0 w.1 c.requires.rows.nodes.tree.forest w.2 w.3 part)) w.2
