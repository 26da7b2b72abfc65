use Rattle.std.proofs.Common.{◌≡◌, ◌∙◌, ap, sym, subst, true}
use Rattle.std.specs.Arc.{arc_value}
use Rattle.model.specs.Tree.{Tree}
use Rattle.model.specs.TreeChange.{agrees, grafted}
use Rattle.revision_tree.specs.Nodes.{tree_of}
use Rattle.revision_tree.specs.Notes.{HasOneLeaf}
use Rattle.revision_tree.specs.Rows.{nodes_of}
use Rattle.revision_tree.proofs.Grafts.{grown_tree, grown_nodes}
use Rattle.revision_tree.proofs.tree.RevTree.grafted.Goals as goal

pub notes_with-requires-clause-rows : goal.notes_with-requires-clause-rows
notes_with-requires-clause-rows c =
    let t = tree_of (nodes_of c.in_ok-rows.rows) in
    let h : agrees t c.args.path.now ≡ true = ap (λ (u : Tree). agrees u c.args.path.now) c.in_ok-rows.ensures.tree ∙ c.requires.agrees in
    record {
      nodes = grown_nodes c.args.path.now (arc_value c.args.body) c.args.deleted t (nodes_of c.grow.new.rows) c.requires.path c.requires.revs c.requires.body h c.in_ok-rows.ensures.ground.forest c.in_ok-rows.ensures.range c.in_ok-grow.ensures.grown;
      filled = c.in_ok-grow.ensures.filled;
    }

pub notes_with-requires-clause-one : goal.notes_with-requires-clause-one
notes_with-requires-clause-one c = λ e.
    subst HasOneLeaf (sym (grown_tree c.args.path.now (arc_value c.args.body) c.args.deleted (tree_of (nodes_of c.in_ok-rows.rows)) (nodes_of c.grow.new.rows) c.requires.path c.in_ok-grow.ensures.grown
    ∙ ap (grafted c.args.path.now (arc_value c.args.body) c.args.deleted) c.in_ok-rows.ensures.tree)) (c.keeps_one_leaf-one_leaf.ensures e (arc_value c.args.body) c.args.deleted)

pub notes_with-requires-clause-grown : goal.notes_with-requires-clause-grown
notes_with-requires-clause-grown c = (
  arc_value c.args.body,
  grown_tree c.args.path.now (arc_value c.args.body) c.args.deleted (tree_of (nodes_of c.in_ok-rows.rows)) (nodes_of c.grow.new.rows) c.requires.path c.in_ok-grow.ensures.grown
      ∙ ap (grafted c.args.path.now (arc_value c.args.body) c.args.deleted) c.in_ok-rows.ensures.tree,
)

pub invariant_of-result : goal.invariant_of-result
invariant_of-result c =
    let t = tree_of (nodes_of c.in_ok-rows.rows) in
    let h : agrees t c.args.path.now ≡ true = ap (λ (u : Tree). agrees u c.args.path.now) c.in_ok-rows.ensures.tree ∙ c.requires.agrees in
    record {
      rows = record {
        nodes = grown_nodes c.args.path.now (arc_value c.args.body) c.args.deleted t (nodes_of c.grow.new.rows) c.requires.path c.requires.revs c.requires.body h c.in_ok-rows.ensures.ground.forest c.in_ok-rows.ensures.range c.in_ok-grow.ensures.grown;
        filled = c.in_ok-grow.ensures.filled;
      };
      notes = c.in_ok-notes.ensures;
    }

pub returns : goal.returns
returns c =
    grown_tree c.args.path.now (arc_value c.args.body) c.args.deleted (tree_of (nodes_of c.in_ok-rows.rows)) (nodes_of c.grow.new.rows) c.requires.path c.in_ok-grow.ensures.grown
    ∙ ap (grafted c.args.path.now (arc_value c.args.body) c.args.deleted) c.in_ok-rows.ensures.tree
